use Rattle.std.proofs.Common.{length, drop, get_or, sym, ap, ◌∙◌, subst, ◌<◌, ◌≡◌, ℕ, ◌||◌, Bool}
use Rattle.lk_token.specs.TokenStates.{is_locked}
use Rattle.lk_task_board.proofs.Listed.{has_at, has_more, locked_more}
use Rattle.lk_task_board.proofs.locking.lock_all.Goals as goal

pub lock-was_free-requires : goal.lock-was_free-requires
lock-was_free-requires c = rw c.loop-lock.invariant.size (c.requires (get_or c.args.locks.now c.loop-lock.lock-index 0) (has_at c.args.locks.now c.loop-lock.lock-index c.loop-lock-test.true))
