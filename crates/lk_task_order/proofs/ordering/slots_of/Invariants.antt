use Rattle.std.proofs.Common.{◌≡◌, ℕ, ◌<◌, ◌≤◌, ◌^◌, true}
use Rattle.lk_task_runs.specs.Below.{has}
use Rattle.lk_task_runs.specs.Phases.{need}
use Rattle.lk_task_order.proofs.ordering.slots_of.Given as goal

abbrev pub invariant-loop-task : goal.invariant-loop-task
invariant-loop-task l = record {
  few : l.past ≤ 2 ^ 32;
  reads : (t m : ℕ) → t < l.task → has m (need l.needs t).reads ≡ true → m < l.past;
  writes : (t m : ℕ) → t < l.task → has m (need l.needs t).writes ≡ true → m < l.past;
}
