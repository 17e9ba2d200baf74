use Rattle.std.proofs.Common.{get_or}
use Rattle.lk_task_board.proofs.Listed.{has_at}
use Rattle.lk_task_board.proofs.locking.unlock_all.Goals as goal

pub unlock-requires : goal.unlock-requires
unlock-requires c = rw c.loop-lock.invariant.size (c.requires (get_or c.args.locks.now c.loop-lock.lock-index 0) (has_at c.args.locks.now c.loop-lock.lock-index c.loop-lock-test.true))
