use Rattle.std.proofs.Common.{◌≡◌, ℕ, ◌<◌, ◌≤◌, ◌^◌, true}
use Rattle.lk_task_runs.specs.Below.{has}
use Rattle.lk_task_runs.specs.Phases.{need}
use Rattle.lk_task_board.proofs.token_counts.locks_of.Given as goal

abbrev pub invariant-loop-task : goal.invariant-loop-task
invariant-loop-task l = record {
  few : l.past ≤ 2 ^ 32;
  past_each : (t n : ℕ) → t < l.task → has n (need l.needs t).locks ≡ true → n < l.past;
}
