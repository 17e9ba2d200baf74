-- What the calls of a machine do, from what is known of its parts.
use Rattle.std.proofs.Common.{◌≡◌, ℕ, zero, suc, ◌+◌, ◌<◌, ◌≤◌, Bool, true, false, List, ◌++◌, ◌∷◌, [], length, map, set, nat_eq, replicate, Option, None, Some, refl, sym, ap, ◌∙◌, subst, arith}
use Rattle.std.specs.List.{IsDistinct}
use Rattle.std.proofs.lemmas.List.{length-map}
use Rattle.lk_task_runs.specs.declared.tasks.Needs.{Needs}
use Rattle.lk_task_runs.specs.declared.tasks.Phase.{Phase}
use Rattle.lk_task_runs.specs.declared.tasks.Phase.TheVariants.{Waiting, Running, Done}
use Rattle.lk_task_runs.specs.declared.tasks.Event.TheVariants.{Take, Finish}
use Rattle.lk_task_runs.specs.Phases.{need, phase_of, is_under, is_runnable, lowest_runnable, is_stopped, is_all_done, is_complete, is_busy, is_one_running}
use Rattle.lk_task_runs.specs.Turns.{all_waiting, phases_after, is_run}
use Rattle.lk_task_runs.specs.Orders.{IsOrdered}
use Rattle.lk_task_runs.specs.Runs.{Act, act, needs_of, given_to, given_of, put, blank, finished, in_order, no_act}
use Rattle.lk_task_runs.specs.TaskLaws.{IsSized}
use Rattle.lk_task_runs.proofs.RunsSettled as settled
use Rattle.lk_task_runs.proofs.ScheduledTasks.{runnable_parts, under_running, running_not_waiting, phase_in}
use Rattle.lk_task_board.specs.Boards.{BoardState, with_phase}
use Rattle.lk_queue.specs.declared.work.Task.{Task}
use Rattle.lk_queue.specs.declared.work.Took.{Took}
use Rattle.lk_queue.specs.declared.work.Finished.{Finished}
use Rattle.lk_queue.specs.declared.ready.Ready.{Ready}
use Rattle.lk_queue.specs.Machines.{MachineState, ArePresent, task_needs, needs_in, acts_of, phases_of, state_of, with_event}
use Rattle.lk_queue.specs.Jobs.{IsReadyAt, GivesJob}
use Rattle.lk_queue.specs.MachineParts.{IsMachine}
use Rattle.lk_queue.specs.Calls.{TakesNothing, Takes, IsAllowed, handed, has_written, Hands}
use Rattle.lk_queue.proofs.Histories.{needs_of_acts, length_needs, length_acts}
use Rattle.lk_queue.proofs.MachineSteps.{IsLowest, lowest_parts, phases_size, machine_take, machine_finish, room_take, room_finish, one_runs, takes_from}

-- a job writes as many values as it was given to write
pub sized_acts : {J S : Type 0} (outcome : J → List S → List S → List S) (owned : S → Bool) (tasks : List (Task J)) → ((job : J) (read write : List S) → map owned (outcome job read write) ≡ map owned write) → IsSized (acts_of outcome tasks)
sized_acts outcome owned [] law t read write = refl
sized_acts {J} {S} outcome owned (x ∷ xs) law zero read write =
    sym (length-map (outcome x.job read write) owned) ∙ ap (λ (bs : List Bool). length bs) (law x.job read write) ∙ length-map write owned
sized_acts outcome owned (x ∷ xs) law (suc t) read write = sized_acts outcome owned xs law t read write

ordered_acts : {J S : Type 0} (outcome : J → List S → List S → List S) (tasks : List (Task J)) (shared slots : ℕ) → IsOrdered shared slots (needs_in tasks) → IsOrdered shared slots (needs_of (acts_of outcome tasks))
ordered_acts outcome tasks shared slots h = subst (λ (ns : List Needs). IsOrdered shared slots ns) (sym (needs_of_acts outcome tasks)) h

run_acts : {J S : Type 0} (outcome : J → List S → List S → List S) (m : MachineState J S) → is_run (needs_in m.tasks) (all_waiting (length m.tasks)) m.history ≡ true → is_run (needs_of (acts_of outcome m.tasks)) (all_waiting (length (acts_of outcome m.tasks))) m.history ≡ true
run_acts outcome m h =
    ap (λ (ns : List Needs). is_run ns (all_waiting (length (acts_of outcome m.tasks))) m.history) (needs_of_acts outcome m.tasks)
    ∙ ap (λ (n : ℕ). is_run (needs_in m.tasks) (all_waiting n) m.history) (length_acts outcome m.tasks) ∙ h

at_acts : {J S : Type 0} (outcome : J → List S → List S → List S) (m : MachineState J S) (test : List Phase → Bool) (b : Bool) → test (phases_of m) ≡ b → test (phases_after (all_waiting (length (acts_of outcome m.tasks))) m.history) ≡ b
at_acts outcome m test b h = ap (λ (n : ℕ). test (phases_after (all_waiting n) m.history)) (length_acts outcome m.tasks) ∙ h

-- slots stay as many as there were
pub room_is : {J S : Type 0} (outcome : J → List S → List S → List S) (m : MachineState J S) (board : BoardState) (store : List (Option S)) (jobs : List (Option (Ready J S))) (events : ℕ) (empty : List S) (room : ℕ) → IsMachine outcome m board store jobs events empty room → (owned : S → Bool) → ((job : J) (read write : List S) → map owned (outcome job read write) ≡ map owned write) → length store ≤ room
room_is {J} {S} outcome m board store jobs events empty room h owned law =
    let reached = settled.reached_by (acts_of outcome m.tasks) m.slots h.ordered.0 m.history (ordered_acts outcome m.tasks h.ordered.0 (length m.slots) h.ordered.1) (sized_acts outcome owned m.tasks law) (run_acts outcome m h.run) in
    omega (arith, ap (λ (s : List (Option S)). length s) h.store_is, reached.store_size, length-map m.slots (λ (x : S). Some x), h.slots_room)

-- where no task runs every slot has a value
pub present : {J S : Type 0} (outcome : J → List S → List S → List S) (m : MachineState J S) (board : BoardState) (store : List (Option S)) (jobs : List (Option (Ready J S))) (events : ℕ) (empty : List S) (room : ℕ) → IsMachine outcome m board store jobs events empty room → (owned : S → Bool) → ((job : J) (read write : List S) → map owned (outcome job read write) ≡ map owned write) → is_one_running board.phases ≡ false → ArePresent store
present outcome m board store jobs events empty room h owned law rest =
    let lost = settled.no_slot_is_lost _ (acts_of outcome m.tasks) m.slots h.ordered.0 m.history (ordered_acts outcome m.tasks h.ordered.0 (length m.slots) h.ordered.1) (sized_acts outcome owned m.tasks law) (run_acts outcome m h.run)
    (at_acts outcome m is_one_running false (ap is_one_running (sym h.phases) ∙ rest)) in
    (lost.0, h.store_is ∙ lost.1)

pub hands : {J S : Type 0} (outcome : J → List S → List S → List S) (m : MachineState J S) (board : BoardState) (store : List (Option S)) (jobs : List (Option (Ready J S))) (events : ℕ) (empty : List S) (room : ℕ) → IsMachine outcome m board store jobs events empty room → (owned : S → Bool) → ((job : J) (read write : List S) → map owned (outcome job read write) ≡ map owned write) → is_one_running board.phases ≡ false → (slots : List S) → map Some slots ≡ store → Hands outcome m slots
hands outcome m board store jobs events empty room h owned law rest slots e =
    record {
      none_runs = ap is_one_running (sym h.phases) ∙ rest;
      slots_are = e ∙ h.store_is;
      by_number = λ complete. e ∙ h.store_is ∙ settled.any_interleaving _ (acts_of outcome m.tasks) m.slots h.ordered.0 m.history (ordered_acts outcome m.tasks h.ordered.0 (length m.slots) h.ordered.1) (sized_acts outcome owned m.tasks law) (run_acts outcome m h.run) (at_acts outcome m is_complete true complete);
    }

-- what is known of the lowest runnable task of the board
pub lowest_of : {J S : Type 0} (outcome : J → List S → List S → List S) (m : MachineState J S) (board : BoardState) (store : List (Option S)) (jobs : List (Option (Ready J S))) (events : ℕ) (empty : List S) (room : ℕ) → IsMachine outcome m board store jobs events empty room → (o : Option ℕ) → lowest_runnable board.needs board.phases ≡ o → lowest_runnable (needs_in m.tasks) (phases_of m) ≡ o
lowest_of outcome m board store jobs events empty room h o e =
    ap (λ (ns : List Needs). lowest_runnable ns (phases_of m)) (sym h.needs) ∙ ap (λ (ms : List Phase). lowest_runnable board.needs ms) (sym h.phases) ∙ e

pub phases_test : {J S : Type 0} (outcome : J → List S → List S → List S) (m : MachineState J S) (board : BoardState) (store : List (Option S)) (jobs : List (Option (Ready J S))) (events : ℕ) (empty : List S) (room : ℕ) → IsMachine outcome m board store jobs events empty room → (test : List Phase → Bool) (b : Bool) → test board.phases ≡ b → test (phases_of m) ≡ b
phases_test outcome m board store jobs events empty room h test b e = ap test (sym h.phases) ∙ e

pub nothing : {J S : Type 0} (outcome : J → List S → List S → List S) (m : MachineState J S) (board : BoardState) (store : List (Option S)) (jobs : List (Option (Ready J S))) (events : ℕ) (empty : List S) (room : ℕ) → IsMachine outcome m board store jobs events empty room → is_stopped board.phases ≡ false → is_all_done board.phases ≡ false → lowest_runnable board.needs board.phases ≡ None → TakesNothing m m
nothing outcome m board store jobs events empty room h going undone none =
    let lowest = lowest_of outcome m board store jobs events empty room h None none in
    let left = phases_test outcome m board store jobs events empty room h is_all_done false undone in
    record {
      same = refl;
      going = phases_test outcome m board store jobs events empty room h is_stopped false going;
      undone = left;
      none = lowest;
      one_runs = one_runs m h.ordered.0 h.ordered.1 left lowest;
    }

pub lowest_there : (ns : List Needs) (ms : List Phase) (t : ℕ) → lowest_runnable ns ms ≡ Some t → t < length ns
lowest_there ns ms t e = (lowest_parts ns ms t e).there

pub lowest_runs : (ns : List Needs) (ms : List Phase) (t : ℕ) → lowest_runnable ns ms ≡ Some t → is_runnable ns ms t ≡ true
lowest_runs ns ms t e = (lowest_parts ns ms t e).runs

-- the job of the lowest runnable task waits
pub job_there : {J S : Type 0} (outcome : J → List S → List S → List S) (m : MachineState J S) (board : BoardState) (store : List (Option S)) (jobs : List (Option (Ready J S))) (events : ℕ) (empty : List S) (room : ℕ) → IsMachine outcome m board store jobs events empty room → (t : ℕ) → lowest_runnable board.needs board.phases ≡ Some t → IsReadyAt (need board.needs t) jobs t
job_there {J} {S} outcome m board store jobs events empty room h t e =
    let lowest = lowest_of outcome m board store jobs events empty room h (Some t) e in
    let low = lowest_parts (needs_in m.tasks) (phases_of m) t lowest in
    let has = h.jobs_there t (omega (arith, low.there, length_needs m.tasks)) (runnable_parts (needs_in m.tasks) (phases_of m) t low.runs).0 in
    subst (λ (ns : List Needs). IsReadyAt (need ns t) jobs t) (sym h.needs) has.there

pub writes_once_of : {J S : Type 0} (outcome : J → List S → List S → List S) (m : MachineState J S) (board : BoardState) (store : List (Option S)) (jobs : List (Option (Ready J S))) (events : ℕ) (empty : List S) (room : ℕ) → IsMachine outcome m board store jobs events empty room → (t : ℕ) → IsDistinct nat_eq (need board.needs t).writes
writes_once_of outcome m board store jobs events empty room h t = subst (λ (ns : List Needs). IsDistinct nat_eq (need ns t).writes) (sym h.needs) (h.ordered.1.writes_once t)

pub event_room : {J S : Type 0} (outcome : J → List S → List S → List S) (m : MachineState J S) (board : BoardState) (store : List (Option S)) (jobs : List (Option (Ready J S))) (events : ℕ) (empty : List S) (room : ℕ) → IsMachine outcome m board store jobs events empty room → (t : ℕ) → lowest_runnable board.needs board.phases ≡ Some t → length m.history < events
event_room outcome m board store jobs events empty room h t e = room_take m t events h.history_room (lowest_of outcome m board store jobs events empty room h (Some t) e)

-- the machine after a task was taken
pub taken : {J S : Type 0} (outcome : J → List S → List S → List S) (m : MachineState J S) (board : BoardState) (store : List (Option S)) (jobs : List (Option (Ready J S))) (events : ℕ) (empty : List S) (room : ℕ) → IsMachine outcome m board store jobs events empty room → (started : BoardState) (after : List (Option S)) (left : List (Option (Ready J S))) (later w t : ℕ) → events ≤ later → lowest_runnable board.needs board.phases ≡ Some t → is_stopped board.phases ≡ false → is_busy (phases_of m) w ≡ false
    → started ≡ with_phase board t (Running w) → after ≡ blank (need board.needs t).writes store → left ≡ set jobs t None → IsMachine outcome (with_event m (Take w t)) started after left later empty room
taken {J} {S} outcome m board store jobs events empty room h started after left later w t more e going idle bs ss js =
    let here = machine_take outcome m board store jobs events later empty room w t h more (lowest_of outcome m board store jobs events empty room h (Some t) e) (phases_test outcome m board store jobs events empty room h is_stopped false going) idle in
    let s : after ≡ blank (need (needs_in m.tasks) t).writes store = ss ∙ ap (λ (ns : List Needs). blank (need ns t).writes store) h.needs in
    subst (λ (b : BoardState). IsMachine outcome (with_event m (Take w t)) b after left later empty room) (sym bs)
    (subst (λ (x : List (Option S)). IsMachine outcome (with_event m (Take w t)) (with_phase board t (Running w)) x left later empty room) (sym s)
    (subst (λ (x : List (Option (Ready J S))). IsMachine outcome (with_event m (Take w t)) (with_phase board t (Running w)) (blank (need (needs_in m.tasks) t).writes store) x later empty room) (sym js) here))

pub gives : {J S : Type 0} (outcome : J → List S → List S → List S) (m : MachineState J S) (board : BoardState) (store : List (Option S)) (jobs : List (Option (Ready J S))) (events : ℕ) (empty : List S) (room : ℕ) → IsMachine outcome m board store jobs events empty room → (later : MachineState J S) (w t : ℕ) (k : Took J S) → lowest_runnable board.needs board.phases ≡ Some t → is_stopped board.phases ≡ false → is_all_done board.phases ≡ false → later ≡ with_event m (Take w t) → GivesJob (given_of (need board.needs t) store) jobs t k → Takes outcome m w k later
gives outcome m board store jobs events empty room h later w t k e going undone now given =
    takes_from outcome m later board store jobs events empty room w t k h (lowest_of outcome m board store jobs events empty room h (Some t) e)
    (phases_test outcome m board store jobs events empty room h is_stopped false going) (phases_test outcome m board store jobs events empty room h is_all_done false undone) now
    (subst (λ (ns : List Needs). GivesJob (given_of (need ns t) store) jobs t k) h.needs given)

pub running_there : {J S : Type 0} (outcome : J → List S → List S → List S) (m : MachineState J S) (board : BoardState) (store : List (Option S)) (jobs : List (Option (Ready J S))) (events : ℕ) (empty : List S) (room : ℕ) → IsMachine outcome m board store jobs events empty room → (w t : ℕ) → is_under w (phase_of (phases_of m) t) ≡ true → t < length board.needs
running_there outcome m board store jobs events empty room h w t under =
    let inside : t < length (phases_of m) = phase_in (phases_of m) t (running_not_waiting (phase_of (phases_of m) t) (under_running w (phase_of (phases_of m) t) under)) in
    omega (arith, inside, phases_size m, length_needs m.tasks, ap (λ (ns : List Needs). length ns) h.needs)

-- the machine after a task was finished
pub finished_by : {J S : Type 0} (outcome : J → List S → List S → List S) (m : MachineState J S) (board : BoardState) (store : List (Option S)) (jobs : List (Option (Ready J S))) (events : ℕ) (empty : List S) (room : ℕ) → IsMachine outcome m board store jobs events empty room → (ended : BoardState) (after : List (Option S)) (later w t : ℕ) (done : Finished J S) (slots : List S) (writes : List ℕ) (wrote : Bool) → events ≤ later → is_under w (phase_of (phases_of m) t) ≡ true → IsAllowed outcome m t done → slots ≡ handed done → wrote ≡ has_written done → writes ≡ (need board.needs t).writes
    → ended ≡ with_phase board t (Done wrote) → after ≡ put writes slots store → IsMachine outcome (with_event m (Finish w t wrote)) ended after jobs later empty room
finished_by {J} {S} outcome m board store jobs events empty room h ended after later w t done slots writes wrote more under allowed same wrote_is writes_are bs ss =
    let answer : slots ≡ finished (act (acts_of outcome m.tasks) t) (given_to (state_of outcome m) t) wrote = same ∙ allowed ∙ ap (λ (b : Bool). finished (act (acts_of outcome m.tasks) t) (given_to (state_of outcome m) t) b) (sym wrote_is) in
    let here = machine_finish outcome m board store jobs events later empty room w t wrote slots h more under answer in
    let s : after ≡ put (need (needs_in m.tasks) t).writes slots store = ss ∙ ap (λ (ns : List ℕ). put ns slots store) (writes_are ∙ ap (λ (ns : List Needs). (need ns t).writes) h.needs) in
    subst (λ (b : BoardState). IsMachine outcome (with_event m (Finish w t wrote)) b after jobs later empty room) (sym bs)
    (subst (λ (x : List (Option S)). IsMachine outcome (with_event m (Finish w t wrote)) (with_phase board t (Done wrote)) x jobs later empty room) (sym s) here)

pub finish_room : {J S : Type 0} (outcome : J → List S → List S → List S) (m : MachineState J S) (board : BoardState) (store : List (Option S)) (jobs : List (Option (Ready J S))) (events : ℕ) (empty : List S) (room : ℕ) → IsMachine outcome m board store jobs events empty room → (w t : ℕ) → is_under w (phase_of (phases_of m) t) ≡ true → length m.history < events
finish_room outcome m board store jobs events empty room h w t under = room_finish m w t events h.history_room under
