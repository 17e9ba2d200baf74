-- The laws on runs of ordered tasks.
use Rattle.std.specs.Prelude.{◌≡◌, ℕ, true, false, is_some, List, length, map, None, Some}
use Rattle.lk_task_runs.specs.declared.tasks.Needs.{Needs}
use Rattle.lk_task_runs.specs.declared.tasks.Phase.{Phase}
use Rattle.lk_task_runs.specs.declared.tasks.Event.{Event}
use Rattle.lk_task_runs.specs.Phases.{lowest_runnable, is_all_done, is_complete, is_one_running}
use Rattle.lk_task_runs.specs.Turns.{all_waiting, phases_after, is_run}
use Rattle.lk_task_runs.specs.Orders.{first_not_ordered, IsOrdered}
use Rattle.lk_task_runs.specs.Runs.{Act, act, needs_of, start, state_after, in_order}

-- each task writes as many slots as it was given to write
abbrev pub IsSized : {S : Type 0} → List (Act S) → Type 0
IsSized {S} acts = (t : ℕ) (read write : List S) → length ((act acts t).effect read write) ≡ length write

-- a complete run of ordered tasks leaves the store that the tasks leave when they are run alone by number
abbrev pub AnyInterleaving : (S : Type 0) → Type 0
AnyInterleaving S = (acts : List (Act S)) (slots : List S) (shared : ℕ) (history : List Event) →
    IsOrdered shared (length slots) (needs_of acts) → IsSized acts →
    is_run (needs_of acts) (all_waiting (length acts)) history ≡ true →
    is_complete (phases_after (all_waiting (length acts)) history) ≡ true →
    (state_after acts (start acts slots) history).store ≡ in_order acts (map Some slots)

-- where no task runs and one is not done, one is runnable
abbrev pub SomeTaskIsRunnable : Type 0
SomeTaskIsRunnable = (ns : List Needs) (ms : List Phase) → first_not_ordered ns ≡ None → length ms ≡ length ns →
    is_one_running ms ≡ false → is_all_done ms ≡ false → is_some (lowest_runnable ns ms) ≡ true

-- where no task runs after a run of ordered tasks, every slot has a value
abbrev pub NoSlotIsLost : (S : Type 0) → Type 0
NoSlotIsLost S = (acts : List (Act S)) (slots : List S) (shared : ℕ) (history : List Event) →
    IsOrdered shared (length slots) (needs_of acts) → IsSized acts →
    is_run (needs_of acts) (all_waiting (length acts)) history ≡ true →
    is_one_running (phases_after (all_waiting (length acts)) history) ≡ false →
    (values : List S) × ((state_after acts (start acts slots) history).store ≡ map Some values)
