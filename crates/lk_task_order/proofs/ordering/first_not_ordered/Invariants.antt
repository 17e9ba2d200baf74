use Rattle.std.proofs.Common.{◌≡◌, ℕ, ◌<◌, ◌≤◌, false, length, get_or}
use Rattle.lk_task_runs.specs.Orders.{is_not_ordered}
use Rattle.lk_task_order.specs.Seen.{AreSeen}
use Rattle.lk_task_order.proofs.ordering.first_not_ordered.Given as goal

abbrev pub invariant-loop-task : goal.invariant-loop-task
invariant-loop-task l = record {
  reached_size : length l.reached.items ≡ l.blockers;
  least : (b : ℕ) → get_or l.reached.items b 0 ≤ l.task;
  seen : AreSeen l.needs l.slots l.task l.writers.items l.readers.items;
  ordered : (x : ℕ) → x < l.task → is_not_ordered l.needs x ≡ false;
}
