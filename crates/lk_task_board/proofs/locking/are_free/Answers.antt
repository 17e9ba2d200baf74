use Rattle.std.proofs.Common.{get_or}
use Rattle.lk_task_board.proofs.Listed.{has_at}
use Rattle.lk_task_board.proofs.locking.are_free.Goals as goal

pub is_locked-requires : goal.is_locked-requires
is_locked-requires c = c.requires (get_or c.args.locks.now c.loop-lock.lock-index 0) (has_at c.args.locks.now c.loop-lock.lock-index c.loop-lock-test.true)
