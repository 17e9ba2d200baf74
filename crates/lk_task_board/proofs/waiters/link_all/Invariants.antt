use Rattle.std.proofs.Common.{◌≡◌, ◌≤◌, length}
use Rattle.lk_task_board.specs.Waiting.{AreLinkedFrom}
use Rattle.lk_task_board.proofs.waiters.link_all.Given as goal

abbrev pub invariant-loop-task : goal.invariant-loop-task
invariant-loop-task l = record {
  within : l.task ≤ length l.needs;
  size : length l.first ≡ length l.fn.first;
  linked : AreLinkedFrom l.needs (length l.fn.first) l.task l.first l.next;
}

abbrev pub decreases-loop-task : goal.decreases-loop-task
decreases-loop-task l = l.task
