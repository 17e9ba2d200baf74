-- What the calls of a machine do.
use Rattle.std.specs.Prelude.{◌≡◌, ℕ, Bool, true, false, List, length, map, slice_index_or, Option, None, Some, Result, Ok, Err}
use Rattle.lk_task_runs.specs.declared.tasks.Event.TheVariants.{Take, Finish}
use Rattle.lk_task_runs.specs.Phases.{need, lowest_runnable, is_stopped, is_all_done, is_complete, is_one_running}
use Rattle.lk_task_runs.specs.Runs as runs
use Rattle.lk_task_runs.specs.Runs.{act, given_of, given_to, in_order}
use Rattle.lk_queue.specs.declared.work.Task.{Task}
use Rattle.lk_queue.specs.declared.work.Parcel.{Parcel}
use Rattle.lk_queue.specs.declared.work.Took.{Took}
use Rattle.lk_queue.specs.declared.work.Took.TheVariants as took
use Rattle.lk_queue.specs.declared.work.Finished.{Finished}
use Rattle.lk_queue.specs.declared.work.Finished.TheVariants as finished
use Rattle.lk_queue.specs.Machines.{MachineState, needs_in, acts_of, phases_of, state_of, with_event}
use Rattle.lk_queue.specs.Jobs.{IsParcel}

-- a task reported out of memory, and nothing was taken
pub record TakesStopped {J S : Type 0} (m later : MachineState J S) : Type 0 where
  pub same : later ≡ m
  pub stopped : is_stopped (phases_of m) ≡ true

-- no task reported out of memory, every one is done, and nothing was taken
pub record TakesDone {J S : Type 0} (m later : MachineState J S) : Type 0 where
  pub same : later ≡ m
  pub going : is_stopped (phases_of m) ≡ false
  pub all_done : is_all_done (phases_of m) ≡ true

-- a task is not done, none is runnable, and nothing was taken. This comes only while a task runs
pub record TakesNothing {J S : Type 0} (m later : MachineState J S) : Type 0 where
  pub same : later ≡ m
  pub going : is_stopped (phases_of m) ≡ false
  pub undone : is_all_done (phases_of m) ≡ false
  pub none : lowest_runnable (needs_in m.tasks) (phases_of m) ≡ None
  pub one_runs : is_one_running (phases_of m) ≡ true

-- the runnable task of lowest number was taken, with its job and what is in the slots that it reads and writes
pub record TakesJob {J S : Type 0} (outcome : J → List S → List S → List S) (m : MachineState J S) (w t : ℕ) (job : J) (parcel : Parcel S) (later : MachineState J S) : Type 0 where
  pub taken : later ≡ with_event m (Take w t)
  pub going : is_stopped (phases_of m) ≡ false
  pub undone : is_all_done (phases_of m) ≡ false
  pub lowest : lowest_runnable (needs_in m.tasks) (phases_of m) ≡ Some t
  pub job_is : (d : Task J) → job ≡ (slice_index_or m.tasks t d).job
  pub parcel_is : IsParcel (given_of (need (needs_in m.tasks) t) (state_of outcome m).store) parcel

-- what a worker gets, and the machine then
abbrev pub Takes : {J S : Type 0} → (J → List S → List S → List S) → MachineState J S → ℕ → Took J S → MachineState J S → Type 0
Takes outcome m w took.Stopped later = TakesStopped m later
Takes outcome m w took.AllDone later = TakesDone m later
Takes outcome m w took.NothingNow later = TakesNothing m later
Takes outcome m w (took.Job t job parcel) later = TakesJob outcome m w t job parcel later

-- whether a job has written
abbrev pub has_written : {J S : Type 0} → Finished J S → Bool
has_written (finished.Wrote slots) = true
has_written (finished.NoMemory slots) = false

-- the slots that a job hands back
abbrev pub handed : {J S : Type 0} → Finished J S → List S
handed (finished.Wrote slots) = slots
handed (finished.NoMemory slots) = slots

-- an answer that a task may give: what its job writes of what it was given, or what it was given to write
abbrev pub IsAllowed : {J S : Type 0} → (J → List S → List S → List S) → MachineState J S → ℕ → Finished J S → Type 0
IsAllowed outcome m t done = handed done ≡ runs.finished (act (acts_of outcome m.tasks) t) (given_to (state_of outcome m) t) (has_written done)

-- the values of all slots, where no task runs. Where every task is done and has written, they are what the tasks leave
-- when they are run alone, one after another, by number
pub record Hands {J S : Type 0} (outcome : J → List S → List S → List S) (m : MachineState J S) (slots : List S) : Type 0 where
  pub none_runs : is_one_running (phases_of m) ≡ false
  pub slots_are : map Some slots ≡ (state_of outcome m).store
  pub by_number : is_complete (phases_of m) ≡ true → map Some slots ≡ in_order (acts_of outcome m.tasks) (map Some m.slots)

-- the values of all slots, or the machine where a task runs
abbrev pub HandsBack : {J S : Type 0} → (J → List S → List S → List S) → MachineState J S → Result (List S) (MachineState J S) → Type 0
HandsBack outcome m (Ok slots) = Hands outcome m slots
HandsBack outcome m (Err same) = (same ≡ m) × (is_one_running (phases_of m) ≡ true)
