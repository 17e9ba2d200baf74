-- Jobs that wait, with room for what they will be given, and what a worker gets.
use Rattle.std.specs.Prelude.{◌≡◌, ℕ, ◌+◌, ◌<◌, ◌≤◌, Bool, true, false, not, List, [], length, slice_index_or, Option, None, Some, MatchOption}
use Rattle.std.specs.Vec.{vec_capacity}
use Rattle.lk_task_runs.specs.declared.tasks.Needs.{Needs}
use Rattle.lk_task_runs.specs.declared.tasks.Phase.{Phase}
use Rattle.lk_task_runs.specs.Below.{count_below}
use Rattle.lk_task_runs.specs.Phases.{need, phase_of, is_waiting, is_done}
use Rattle.lk_task_runs.specs.Runs.{Given}
use Rattle.lk_queue.specs.declared.work.Task.{Task}
use Rattle.lk_queue.specs.declared.work.Parcel.{Parcel}
use Rattle.lk_queue.specs.declared.work.Took.{Took}
use Rattle.lk_queue.specs.declared.work.Took.TheVariants as took
use Rattle.lk_queue.specs.declared.ready.Ready.{Ready}

-- a job with room for what a task reads and writes
pub record HasRoom {J S : Type 0} (n : Needs) (r : Ready J S) : Type 0 where
  pub read_empty : r.read.items ≡ []
  pub write_empty : r.write.items ≡ []
  pub read_room : length n.reads ≤ vec_capacity r.read
  pub write_room : length n.writes ≤ vec_capacity r.write

-- the job of a number waits, with room for what its task reads and writes
abbrev pub IsReadyAt : {J S : Type 0} → Needs → List (Option (Ready J S)) → ℕ → Type 0
IsReadyAt {J} {S} n jobs t = (r : Ready J S) × (slice_index_or jobs t None ≡ Some r) × HasRoom n r

-- what is in a parcel: what was in the written slots, and what was in the read ones unless sharing them failed
pub record IsParcel {S : Type 0} (g : Given S) (p : Parcel S) : Type 0 where
  pub read : MatchOption p.read (Unit {0}) (λ r. r ≡ g.read)
  pub write : p.write ≡ g.write

-- a task was given out, with its job and its parcel
abbrev pub GivesJob : {J S : Type 0} → Given S → List (Option (Ready J S)) → ℕ → Took J S → Type 0
GivesJob {J} {S} g jobs t (took.Job u job parcel) = (u ≡ t) × ((r : Ready J S) → slice_index_or jobs t None ≡ Some r → job ≡ r.job) × IsParcel g parcel
GivesJob g jobs t took.NothingNow = ⊥
GivesJob g jobs t took.Stopped = ⊥
GivesJob g jobs t took.AllDone = ⊥

-- how many events are still to come: a Take of each waiting task, and a Finish of each that is not done
abbrev pub events_left : List Phase → ℕ → ℕ
events_left ms n = count_below (λ t. is_waiting (phase_of ms t)) n + count_below (λ t. not (is_done (phase_of ms t))) n
