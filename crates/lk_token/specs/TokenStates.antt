-- What the tokens of tasks are: counts of blockers, and which locks are locked.
use Rattle.std.specs.Prelude.{ℕ, Bool, false, List, slice_index, slice_set}
use Rattle.std.specs.List.{slice_index_or}

-- the counts of the blockers by number, and whether each lock is locked
pub record TokenState : Type 0 where
  pub counts : List ℕ
  pub locked : List Bool

-- the count of a blocker
abbrev pub count_of : TokenState → ℕ → ℕ
count_of s b = slice_index s.counts b

-- whether a lock is locked
abbrev pub is_locked : TokenState → ℕ → Bool
is_locked s l = slice_index_or s.locked l false

-- the tokens with another count of one blocker
abbrev pub with_count : TokenState → ℕ → ℕ → TokenState
with_count s b n = record s { counts = slice_set s.counts b n }

-- the tokens with one lock locked or unlocked
abbrev pub with_lock : TokenState → ℕ → Bool → TokenState
with_lock s l b = record s { locked = slice_set s.locked l b }
