-- What is known of the slots once the tasks below a number were looked at, and which tasks the next one must be after.
use Rattle.std.specs.Prelude.{◌≡◌, ℕ, ◌+◌, ◌-◌, ◌<◌, ◌≤◌, ◌==◌, Bool, true, false, not, ◌&&◌, ◌||◌, cond, List, [], length, slice_index, slice_index_or}
use Rattle.std.specs.List.{list_any}
use Rattle.lk_task_runs.specs.declared.tasks.Needs.{Needs}
use Rattle.lk_task_runs.specs.Below.{has}
use Rattle.lk_task_runs.specs.Phases.{need, is_token}

-- one more than the last task below a number that writes a slot, or 0 where there is none
pub record IsLastWriter (ns : List Needs) (m u w : ℕ) : Type 0 where
  pub within : w ≤ u
  pub writes : 0 < w → has m (need ns (w - 1)).writes ≡ true
  pub later : (t : ℕ) → w ≤ t → t < u → has m (need ns t).writes ≡ false

-- the tasks below a number that read a slot after its last writer
pub record AreReaders (ns : List Needs) (m u w : ℕ) (rs : List ℕ) : Type 0 where
  pub sound : (t : ℕ) → has t rs ≡ true → (t < u) × (has m (need ns t).reads ≡ true)
  pub all : (t : ℕ) → w ≤ t → t < u → has m (need ns t).reads ≡ true → has t rs ≡ true

-- for each slot its last writer and the readers since
pub record AreSeen (ns : List Needs) (slots u : ℕ) (writers : List ℕ) (readers : List (List ℕ)) : Type 0 where
  pub writers_size : length writers ≡ slots
  pub readers_size : length readers ≡ slots
  pub writer_is : (m : ℕ) → m < slots → IsLastWriter ns m u (slice_index writers m)
  pub readers_are : (m : ℕ) → m < slots → AreReaders ns m u (slice_index writers m) (slice_index_or readers m [])

-- one more than the last task that releases a blocker, or 0 where there is none
pub record IsLastReleaser (ns : List Needs) (b u r : ℕ) : Type 0 where
  pub within : r ≤ u
  pub releases : 0 < r → is_token b (need ns (r - 1)).releases ≡ true
  pub later : (t : ℕ) → r ≤ t → t < u → is_token b (need ns t).releases ≡ false

-- what a task that was looked at changes: it is the last writer of the slots that it writes, which nobody has read since,
-- and one more reader of those that it reads alone
pub record IsNoted (n : Needs) (u : ℕ) (writers : List ℕ) (readers : List (List ℕ)) (writers_now : List ℕ) (readers_now : List (List ℕ)) : Type 0 where
  pub writers_size : length writers_now ≡ length writers
  pub readers_size : length readers_now ≡ length readers
  pub writer_is : (m : ℕ) → slice_index writers_now m ≡ cond (has m n.writes) (u + 1) (slice_index writers m)
  pub readers_are : (m t : ℕ) → has t (slice_index_or readers_now m []) ≡ (not (has m n.writes) && (has t (slice_index_or readers m []) || (u == t && has m n.reads)))

-- whether a task must be after another one: that is the last writer of a slot that it touches, or one of the readers since
-- of a slot that it writes
abbrev pub is_gathered : Needs → List ℕ → List (List ℕ) → ℕ → Bool
is_gathered n writers readers t = (list_any (λ m. slice_index writers m == t + 1) n.reads || list_any (λ m. slice_index writers m == t + 1) n.writes) || list_any (λ m. has t (slice_index_or readers m [])) n.writes
