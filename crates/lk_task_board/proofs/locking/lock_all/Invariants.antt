use Rattle.std.proofs.Common.{◌≡◌, ℕ, ◌||◌, length, drop}
use Rattle.lk_token.specs.TokenStates.{is_locked}
use Rattle.lk_task_runs.specs.Below.{has}
use Rattle.lk_task_board.proofs.locking.lock_all.Given as goal

abbrev pub invariant-loop-lock : goal.invariant-loop-lock
invariant-loop-lock l = record {
  counts : l.tokens.counts ≡ l.fn.tokens.counts;
  size : length l.tokens.locked ≡ length l.fn.tokens.locked;
  locked : (n : ℕ) → (is_locked l.tokens n || has n (drop l.lock-index l.locks)) ≡ (is_locked l.fn.tokens n || has n l.locks);
}
