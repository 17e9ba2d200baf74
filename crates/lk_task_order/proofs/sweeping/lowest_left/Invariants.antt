use Rattle.std.proofs.Common.{◌≡◌, ℕ, ◌<◌, ◌≤◌, true, get_or}
use Rattle.lk_task_runs.specs.Phases.{blocks}
use Rattle.lk_task_order.proofs.sweeping.lowest_left.Given as goal

abbrev pub invariant-loop-other : goal.invariant-loop-other
invariant-loop-other l = record {
  within : l.low ≤ l.task;
  direct : (k : ℕ) → k < l.other-index → get_or l.before k 0 < l.low → blocks l.needs (get_or l.before k 0) l.task ≡ true;
}
