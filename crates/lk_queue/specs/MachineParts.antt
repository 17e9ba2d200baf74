-- The parts of a machine, as they follow from its tasks, the slots that it began with, and what has happened.
use Rattle.std.specs.Prelude.{◌≡◌, ℕ, ◌+◌, ◌<◌, ◌≤◌, Bool, true, List, [], length, slice_index_or, Option, None, Some}
use Rattle.lk_task_runs.specs.declared.tasks.Phase.{Phase}
use Rattle.lk_task_runs.specs.Phases.{need, phase_of, is_waiting}
use Rattle.lk_task_runs.specs.Turns.{all_waiting, is_run}
use Rattle.lk_task_runs.specs.Orders.{IsOrdered}
use Rattle.lk_task_board.specs.Boards.{BoardState}
use Rattle.lk_queue.specs.declared.work.Task.{Task}
use Rattle.lk_queue.specs.declared.ready.Ready.{Ready}
use Rattle.lk_queue.specs.Machines.{MachineState, needs_in, phases_of, state_of}
use Rattle.lk_queue.specs.Jobs.{IsReadyAt, events_left}

-- the job of a task waits, with room for what the task reads and writes
pub record HasJob {J S : Type 0} (tasks : List (Task J)) (jobs : List (Option (Ready J S))) (t : ℕ) : Type 0 where
  pub there : IsReadyAt (need (needs_in tasks) t) jobs t
  pub same : (d : Task J) (r : Ready J S) → slice_index_or jobs t None ≡ Some r → r.job ≡ (slice_index_or tasks t d).job

-- the jobs of the tasks that nobody has taken wait
abbrev pub HasJobs : {J S : Type 0} → List (Task J) → List (Option (Ready J S)) → List Phase → Type 0
HasJobs tasks jobs ms = (t : ℕ) → t < length tasks → is_waiting (phase_of ms t) ≡ true → HasJob tasks jobs t

-- the parts of a machine: its board, its slots, the jobs that nobody has taken, how many events its history has room
-- for, and an empty list with room for the values of all slots
pub record IsMachine {J S : Type 0} (outcome : J → List S → List S → List S) (m : MachineState J S) (board : BoardState) (store : List (Option S)) (jobs : List (Option (Ready J S))) (events : ℕ) (empty : List S) (room : ℕ) : Type 0 where
  pub needs : board.needs ≡ needs_in m.tasks
  pub phases : board.phases ≡ phases_of m
  pub store_is : store ≡ (state_of outcome m).store
  pub ordered : (shared : ℕ) × IsOrdered shared (length m.slots) (needs_in m.tasks)
  pub run : is_run (needs_in m.tasks) (all_waiting (length m.tasks)) m.history ≡ true
  pub jobs_there : HasJobs m.tasks jobs (phases_of m)
  pub history_room : length m.history + events_left (phases_of m) (length m.tasks) ≤ events
  pub is_empty : empty ≡ []
  pub slots_room : length m.slots ≤ room
