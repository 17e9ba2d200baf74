use Rattle.std.proofs.Common.{◌≡◌, ℕ, ◌<◌, ◌≤◌, ◌^◌, true}
use Rattle.lk_task_runs.specs.Phases.{need, is_token}
use Rattle.lk_task_board.proofs.token_counts.blockers_of.Given as goal

abbrev pub invariant-loop-task : goal.invariant-loop-task
invariant-loop-task l = record {
  few : l.past ≤ 2 ^ 32;
  waits : (t b : ℕ) → t < l.task → is_token b (need l.needs t).waits ≡ true → b < l.past;
  releases : (t b : ℕ) → t < l.task → is_token b (need l.needs t).releases ≡ true → b < l.past;
}
