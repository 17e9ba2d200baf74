-- The tasks that wait for a blocker, one after another by number.
use Rattle.std.specs.Prelude.{◌≡◌, ℕ, ◌+◌, ◌<◌, ◌≤◌, Bool, true, false, cond, List, length, nat_lt, slice_index, Option, None, Some}
use Rattle.lk_token.specs.TokenStates.{TokenState, count_of}
use Rattle.lk_task_runs.specs.declared.tasks.Needs.{Needs}
use Rattle.lk_task_runs.specs.declared.tasks.Phase.{Phase}
use Rattle.lk_task_runs.specs.Phases.{need, phase_of, is_token, is_waiting}
use Rattle.lk_task_board.specs.Trees.{mark}

-- the first task from a number on that waits for a blocker, or the number of tasks where there is none
pub record IsNext (ns : List Needs) (b from u : ℕ) : Type 0 where
  pub start : from ≤ u
  pub within : u ≤ length ns
  pub skipped : (v : ℕ) → from ≤ v → v < u → is_token b (need ns v).waits ≡ false
  pub there : u < length ns → is_token b (need ns u).waits ≡ true

-- for each blocker the first task from a number on that waits for it, and for each task from there on the next one that
-- waits for the same blocker
pub record AreLinkedFrom (ns : List Needs) (blockers from : ℕ) (first next : List ℕ) : Type 0 where
  pub first_size : length first ≡ blockers
  pub next_size : length next ≡ length ns
  pub first_is : (b : ℕ) → b < blockers → IsNext ns b from (slice_index first b)
  pub next_is : (t b : ℕ) → from ≤ t → t < length ns → is_token b (need ns t).waits ≡ true → IsNext ns b (t + 1) (slice_index next t)

-- the mark of a task once those that wait for a blocker are woken: they are ready unless they were taken
abbrev pub woken : List Needs → List Phase → ℕ → Bool → ℕ → Bool
woken ns ms b old k = cond (is_token b (need ns k).waits) (is_waiting (phase_of ms k)) old

-- the tasks below a number are woken
pub record AreWoken (ns : List Needs) (ms : List Phase) (b : ℕ) (old ready : List Bool) (task : ℕ) : Type 0 where
  pub size : length ready ≡ length old
  pub within : task ≤ length ns
  pub there : task < length ns → is_token b (need ns task).waits ≡ true
  pub done : (k : ℕ) → k < task → mark ready k ≡ woken ns ms b (mark old k) k
  pub left : (k : ℕ) → task ≤ k → mark ready k ≡ mark old k

-- the mark of a task after a release: where the blocker's count is 0 now, those that wait for it are woken
abbrev pub ready_after : List Needs → List Phase → TokenState → Option ℕ → Bool → ℕ → Bool
ready_after ns ms s None old k = old
ready_after ns ms s (Some b) old k = cond (nat_lt 0 (count_of s b)) old (woken ns ms b old k)
