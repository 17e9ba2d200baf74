-- What a machine is, and what has happened to its slots.
use Rattle.std.specs.Prelude.{◌≡◌, ℕ, ◌++◌, Bool, true, false, List, [], ◌∷◌, length, map, Option, None, Some}
use Rattle.lk_task_runs.specs.declared.tasks.Needs.{Needs}
use Rattle.lk_task_runs.specs.declared.tasks.Phase.{Phase}
use Rattle.lk_task_runs.specs.declared.tasks.Event.{Event}
use Rattle.lk_task_runs.specs.Turns.{all_waiting, phases_after}
use Rattle.lk_task_runs.specs.Runs.{Act, State, start, state_after}
use Rattle.lk_queue.specs.declared.work.Task.{Task}

-- slots that all have a value
abbrev pub ArePresent : {S : Type 0} → List (Option S) → Type 0
ArePresent {S} store = (xs : List S) × (store ≡ map Some xs)

-- a machine: the tasks, the slots that it began with, and what has happened
pub record MachineState (J S : Type 0) : Type 0 where
  pub tasks : List (Task J)
  pub slots : List S
  pub history : List Event

-- what a task needs beside its job
abbrev pub task_needs : {J : Type 0} → Task J → Needs
task_needs t = record { waits = t.waits; releases = t.releases; locks = t.locks; reads = t.reads; writes = t.writes }

-- what the tasks need
abbrev pub needs_in : {J : Type 0} → List (Task J) → List Needs
needs_in tasks = map task_needs tasks

-- the tasks with what their jobs write
abbrev pub acts_of : {J S : Type 0} → (J → List S → List S → List S) → List (Task J) → List (Act S)
acts_of outcome tasks = map (λ t. record { needs = task_needs t; effect = outcome t.job }) tasks

-- how far the tasks are
abbrev pub phases_of : {J S : Type 0} → MachineState J S → List Phase
phases_of m = phases_after (all_waiting (length m.tasks)) m.history

-- the slots, and what each running task was given
abbrev pub state_of : {J S : Type 0} → (J → List S → List S → List S) → MachineState J S → State S
state_of outcome m = state_after (acts_of outcome m.tasks) (start (acts_of outcome m.tasks) m.slots) m.history

-- the machine after one more event
abbrev pub with_event : {J S : Type 0} → MachineState J S → Event → MachineState J S
with_event m e = record { tasks = m.tasks; slots = m.slots; history = m.history ++ e ∷ [] }
