use Rattle.std.proofs.Common.{◌≡◌, ◌+◌, ◌-◌, ◌≤◌, length}
use Rattle.lk_task_order.specs.Sweeps.{AreSwept}
use Rattle.lk_task_order.proofs.sweeping.sweep.Given as goal

abbrev pub invariant-loop-next : goal.invariant-loop-next
invariant-loop-next l = record {
  size : length l.reached ≡ length l.fn.reached;
  within : l.next ≤ l.task;
  above : l.task - l.next ≤ l.task - l.low;
  swept : AreSwept l.needs l.task (l.task - l.next) (l.task + 1) l.reached;
}

abbrev pub decreases-loop-next : goal.decreases-loop-next
decreases-loop-next l = l.next
