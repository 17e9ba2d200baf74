use Rattle.std.proofs.Common.{◌≡◌, drop}
use Rattle.std.specs.List.{list_any}
use Rattle.lk_token.specs.TokenStates.{is_locked}
use Rattle.lk_task_board.proofs.locking.are_free.Given as goal

abbrev pub invariant-loop-lock : goal.invariant-loop-lock
invariant-loop-lock l = list_any (is_locked l.tokens) (drop l.lock-index l.locks) ≡ list_any (is_locked l.tokens) l.locks
