-- What tokens say of tasks that wait for them.
use Rattle.std.specs.Prelude.{◌≡◌, ℕ, ◌+◌, ◌-◌, ◌<◌, Bool, true, false, not, List, length, nat_lt, Option, None, Some}
use Rattle.std.specs.List.{list_any}
use Rattle.lk_token.specs.TokenStates.{TokenState, count_of, is_locked, with_count}
use Rattle.lk_task_runs.specs.declared.tasks.Needs.{Needs}
use Rattle.lk_task_runs.specs.Below.{has, count_below}
use Rattle.lk_task_runs.specs.Phases.{need, is_token}

-- whether the count of a blocker that there may be is above 0
abbrev pub is_counted_up : TokenState → Option ℕ → Bool
is_counted_up s None = false
is_counted_up s (Some b) = nat_lt 0 (count_of s b)

-- whether none of these locks is locked
abbrev pub are_free : TokenState → List ℕ → Bool
are_free s locks = not (list_any (is_locked s) locks)

-- the tokens after one task less counts for a blocker that there may be
abbrev pub after_release : TokenState → Option ℕ → TokenState
after_release s None = s
after_release s (Some b) = with_count s b (count_of s b - 1)

-- every blocker that a task waits for or releases is among so many, and every lock that one takes too
pub record AreKnown (ns : List Needs) (blockers locks : ℕ) : Type 0 where
  pub waits : (t b : ℕ) → is_token b (need ns t).waits ≡ true → b < blockers
  pub releases : (t b : ℕ) → is_token b (need ns t).releases ≡ true → b < blockers
  pub locks_there : (t l : ℕ) → has l (need ns t).locks ≡ true → l < locks

-- the tokens before any task was taken: each blocker's count is the number of tasks that release it, and no lock is locked
pub record AreFirst (ns : List Needs) (blockers : ℕ) (s : TokenState) : Type 0 where
  pub size : length s.counts ≡ blockers
  pub known : AreKnown ns (length s.counts) (length s.locked)
  pub counted : (b : ℕ) → b < length s.counts → count_of s b ≡ count_below (λ t. is_token b (need ns t).releases) (length ns)
  pub unlocked : (l : ℕ) → is_locked s l ≡ false
