-- What tasks need, and how far each is.
use Rattle.std.specs.Prelude.{◌≡◌, ℕ, ◌<◌, ◌≤◌, ◌^◌, Bool, true, not, ◌&&◌, List, length, nat_lt, slice_set}
use Rattle.lk_token.specs.TokenStates as token
use Rattle.lk_token.specs.TokenStates.{TokenState, count_of}
use Rattle.lk_task_runs.specs.declared.tasks.Needs.{Needs}
use Rattle.lk_task_runs.specs.declared.tasks.Phase.{Phase}
use Rattle.lk_task_runs.specs.Below.{count_below}
use Rattle.lk_task_runs.specs.Phases.{need, phase_of, is_waiting, is_done, is_blocked, blocker_count, has_lock, is_locked, is_stopped}
use Rattle.lk_task_board.specs.Trees.{mark}
use Rattle.lk_task_board.specs.Tokens.{AreKnown}
use Rattle.lk_task_board.specs.Waiting.{AreLinkedFrom}

-- what the tasks need, and how far each is
pub record BoardState : Type 0 where
  pub needs : List Needs
  pub phases : List Phase

-- the board with one task that is so far
abbrev pub with_phase : BoardState → ℕ → Phase → BoardState
with_phase b t x = record { needs = b.needs; phases = slice_set b.phases t x }

-- whether a task is ready: nobody has taken it, and the count of its blocker is 0
abbrev pub is_ready : List Needs → List Phase → ℕ → Bool
is_ready ns ms t = nat_lt t (length ns) && (is_waiting (phase_of ms t) && not (is_blocked ns ms (need ns t).waits))

-- whether a task is not done
abbrev pub is_undone : List Phase → ℕ → Bool
is_undone ms t = not (is_done (phase_of ms t))

-- the parts of a board: counts and locks as they follow from how far the tasks are, which tasks are ready, the tasks that
-- wait for each blocker, how many tasks are not done, and whether one reported out of memory
pub record IsBoard (ns : List Needs) (ms : List Phase) (tokens : TokenState) (ready : List Bool) (first next : List ℕ) (left : ℕ) (stopped : Bool) : Type 0 where
  pub size : length ms ≡ length ns
  pub few : length ns < 2 ^ 32
  pub known : AreKnown ns (length tokens.counts) (length tokens.locked)
  pub counted : (b : ℕ) → b < length tokens.counts → count_of tokens b ≡ blocker_count ns ms b
  pub locked : (l : ℕ) → l < length tokens.locked → token.is_locked tokens l ≡ is_locked ns ms l
  pub held_once : (l t u : ℕ) → has_lock ns ms l t ≡ true → has_lock ns ms l u ≡ true → t ≡ u
  pub room : length ns ≤ length ready
  pub ready_is : (t : ℕ) → mark ready t ≡ is_ready ns ms t
  pub linked : AreLinkedFrom ns (length tokens.counts) 0 first next
  pub left_is : left ≡ count_below (is_undone ms) (length ns)
  pub stopped_is : stopped ≡ is_stopped ms
