use Rattle.std.proofs.Common.{◌≡◌, ℕ, ◌<◌, length, get_or}
use Rattle.lk_task_order.specs.Seen.{IsLastReleaser}
use Rattle.lk_task_order.proofs.ordering.last_releasers.Given as goal

abbrev pub invariant-loop-task : goal.invariant-loop-task
invariant-loop-task l = record {
  size : length l.last.items ≡ l.blockers;
  last : (b : ℕ) → b < l.blockers → IsLastReleaser l.needs b l.task (get_or l.last.items b 0);
}
