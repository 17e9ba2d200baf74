use Rattle.std.proofs.Common.{◌-◌, length}
use Rattle.lk_task_board.specs.Waiting.{AreWoken}
use Rattle.lk_task_board.proofs.releasing.wake.Given as goal

abbrev pub invariant-loop-task : goal.invariant-loop-task
invariant-loop-task l = AreWoken l.needs l.phases l.token l.fn.ready l.ready l.task

abbrev pub decreases-loop-task : goal.decreases-loop-task
decreases-loop-task l = length l.needs - l.task
