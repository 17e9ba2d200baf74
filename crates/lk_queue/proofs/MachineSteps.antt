-- The parts of a machine stay right as tasks are taken and finished.
use Rattle.std.proofs.Common.{◌≡◌, ℕ, suc, ◌+◌, ◌<◌, ◌≤◌, Bool, true, false, not, ◌&&◌, List, [], ◌∷◌, ◌++◌, length, get_or, set, map, nat_lt, Option, None, Some, is_some, refl, sym, ap, ◌∙◌, subst, inl, inr, arith}
use Rattle.std.specs.List.{list_any}
use Rattle.std.proofs.lemmas.Bool.{false≢true, both_ways, and_parts, and_from, not_from_true, not_from_false, lt-ltb, cases_eq, cases_Bool, true_from_ne_false}
use Rattle.std.proofs.lemmas.Option.{none-some}
use Rattle.std.proofs.lemmas.List.{get_or-set_same, get_or-set_other, length_push, length-replicate, length-set}
use Rattle.lk_task_runs.specs.declared.tasks.Needs.{Needs}
use Rattle.lk_task_runs.specs.declared.tasks.Phase.{Phase}
use Rattle.lk_task_runs.specs.declared.tasks.Phase.TheVariants.{Waiting, Running, Done}
use Rattle.lk_task_runs.specs.declared.tasks.Event.{Event}
use Rattle.lk_task_runs.specs.declared.tasks.Event.TheVariants.{Take, Finish}
use Rattle.lk_task_runs.specs.Below.{count_below}
use Rattle.lk_task_runs.specs.Phases.{need, phase_of, is_waiting, is_running, is_under, is_done, is_runnable, lowest_runnable, is_stopped, is_all_done, is_busy, is_one_running}
use Rattle.lk_task_runs.specs.Turns.{all_waiting, turn, phases_after, is_lawful, is_run}
use Rattle.lk_task_runs.specs.Orders.{IsOrdered}
use Rattle.lk_task_runs.specs.Runs.{Act, Given, State, act, needs_of, given_to, given_of, put, blank, finished, step, state_after, start}
use Rattle.lk_task_runs.proofs.NumbersBelow.{first_some}
use Rattle.lk_task_runs.proofs.ScheduledTasks.{phase_set_other, phase_set_same, runnable_parts, waiting_not_done, waiting_not_running, running_not_waiting, running_not_done, under_running, some_task_is_runnable, phase_in}
use Rattle.lk_task_board.specs.Boards.{BoardState, with_phase}
use Rattle.lk_task_board.proofs.Counting.{count_same, count_less}
use Rattle.lk_task_board.proofs.Steps.{phase_test}
use Rattle.lk_queue.specs.declared.work.Task.{Task}
use Rattle.lk_queue.specs.declared.work.Took.{Took}
use Rattle.lk_queue.specs.declared.work.Took.TheVariants as took
use Rattle.lk_queue.specs.declared.ready.Ready.{Ready}
use Rattle.lk_queue.specs.Machines.{MachineState, needs_in, acts_of, phases_of, state_of, with_event}
use Rattle.lk_queue.specs.Jobs.{IsReadyAt, GivesJob, IsParcel, events_left}
use Rattle.lk_queue.specs.MachineParts.{HasJob, HasJobs, IsMachine}
use Rattle.lk_queue.specs.Calls.{TakesJob, Takes}
use Rattle.lk_queue.proofs.Histories.{phases_more, state_more, run_more, needs_of_acts, length_needs, act_needs}

length_turn : (ms : List Phase) (e : Event) → length (turn ms e) ≡ length ms
length_turn ms (Take w t) = length-set ms t (Running w)
length_turn ms (Finish w t wrote) = length-set ms t (Done wrote)

length_after : (ms : List Phase) (h : List Event) → length (phases_after ms h) ≡ length ms
length_after ms [] = refl
length_after ms (e ∷ h) = length_after (turn ms e) h ∙ length_turn ms e

pub phases_size : {J S : Type 0} (m : MachineState J S) → length (phases_of m) ≡ length m.tasks
phases_size m = length_after (all_waiting (length m.tasks)) m.history ∙ length-replicate (length m.tasks) Waiting

-- what is known of the lowest runnable task
pub record IsLowest (ns : List Needs) (ms : List Phase) (t : ℕ) : Type 0 where
  pub there : t < length ns
  pub runs : is_runnable ns ms t ≡ true

pub lowest_parts : (ns : List Needs) (ms : List Phase) (t : ℕ) → lowest_runnable ns ms ≡ Some t → IsLowest ns ms t
lowest_parts ns ms t e = let f = first_some (is_runnable ns ms) 0 (length ns) t e in record { there = omega (arith, f.1); runs = f.2 }

events_take : (ns : List Needs) (ms : List Phase) (w t n : ℕ) → t < n → n ≡ length ms → is_waiting (phase_of ms t) ≡ true → events_left ms n ≡ suc (events_left (set ms t (Running w)) n)
events_take ns ms w t n l size waits =
    let lm : t < length ms = omega (arith, l, size) in
    let less = count_less (λ (k : ℕ). is_waiting (phase_of ms k)) (λ (k : ℕ). is_waiting (phase_of (set ms t (Running w)) k)) n t l waits (ap is_waiting (phase_set_same ms t (Running w) lm)) (λ k kl o. ap is_waiting (sym (phase_set_other ms t k (Running w) o))) in
    let same = count_same (λ (k : ℕ). not (is_done (phase_of (set ms t (Running w)) k))) (λ (k : ℕ). not (is_done (phase_of ms k))) n (λ k kl. ap not (phase_test is_done ms t (Running w) lm (sym (waiting_not_done (phase_of ms t) waits)) k)) in
    omega (arith, less, same)

events_finish : (ms : List Phase) (t n : ℕ) (wrote : Bool) → t < n → n ≡ length ms → is_running (phase_of ms t) ≡ true → events_left ms n ≡ suc (events_left (set ms t (Done wrote)) n)
events_finish ms t n wrote l size runs =
    let lm : t < length ms = omega (arith, l, size) in
    let same = count_same (λ (k : ℕ). is_waiting (phase_of (set ms t (Done wrote)) k)) (λ (k : ℕ). is_waiting (phase_of ms k)) n (λ k kl. phase_test is_waiting ms t (Done wrote) lm (sym (running_not_waiting (phase_of ms t) runs)) k) in
    let less = count_less (λ (k : ℕ). not (is_done (phase_of ms k))) (λ (k : ℕ). not (is_done (phase_of (set ms t (Done wrote)) k))) n t l (not_from_false (is_done (phase_of ms t)) (running_not_done (phase_of ms t) runs)) (not_from_true (is_done (phase_of (set ms t (Done wrote)) t)) (ap is_done (phase_set_same ms t (Done wrote) lm))) (λ k kl o. ap (λ (x : Phase). not (is_done x)) (sym (phase_set_other ms t k (Done wrote) o))) in
    omega (arith, less, same)

-- a task that waits after a turn of a task that waits no longer is another one, and waited before
other_waits : (ms : List Phase) (t k : ℕ) (x : Phase) → t < length ms → is_waiting x ≡ false → is_waiting (phase_of (set ms t x) k) ≡ true → (k ≡ t → ⊥) × (is_waiting (phase_of ms k) ≡ true)
other_waits ms t k x l gone waits =
    let o : k ≡ t → ⊥ = λ (e : k ≡ t). both_ways (is_waiting (phase_of (set ms t x) t)) (ap is_waiting (phase_set_same ms t x l) ∙ gone) (subst (λ (j : ℕ). is_waiting (phase_of (set ms t x) j) ≡ true) e waits) in
    (o, ap is_waiting (sym (phase_set_other ms t k x o)) ∙ waits)

jobs_take : {J S : Type 0} (tasks : List (Task J)) (jobs : List (Option (Ready J S))) (ms : List Phase) (w t : ℕ) → t < length ms → HasJobs tasks jobs ms → HasJobs tasks (set jobs t None) (set ms t (Running w))
jobs_take {J} {S} tasks jobs ms w t l h k kl waits =
    let parts = other_waits ms t k (Running w) l refl waits in
    let old = h k kl parts.1 in
    let same : get_or (set jobs t None) k None ≡ get_or jobs k None = get_or-set_other jobs t k None None parts.0 in
    record {
      there = (old.there.0, same ∙ old.there.1, old.there.2);
      same = λ d r e. old.same d r (sym same ∙ e);
    }

jobs_finish : {J S : Type 0} (tasks : List (Task J)) (jobs : List (Option (Ready J S))) (ms : List Phase) (t : ℕ) (wrote : Bool) → t < length ms → HasJobs tasks jobs ms → HasJobs tasks jobs (set ms t (Done wrote))
jobs_finish tasks jobs ms t wrote l h k kl waits = h k kl (other_waits ms t k (Done wrote) l refl waits).1

-- what is known of a machine's parts where a task is taken
pub machine_take : {J S : Type 0} (outcome : J → List S → List S → List S) (m : MachineState J S) (board : BoardState) (store : List (Option S)) (jobs : List (Option (Ready J S))) (events later : ℕ) (empty : List S) (room w t : ℕ) → IsMachine outcome m board store jobs events empty room → events ≤ later → lowest_runnable (needs_in m.tasks) (phases_of m) ≡ Some t → is_stopped (phases_of m) ≡ false → is_busy (phases_of m) w ≡ false
    → IsMachine outcome (with_event m (Take w t)) (with_phase board t (Running w)) (blank (need (needs_in m.tasks) t).writes store) (set jobs t None) later empty room
machine_take {J} {S} outcome m board store jobs events later empty room w t h more lowest going idle =
    let low = lowest_parts (needs_in m.tasks) (phases_of m) t lowest in
    let parts = runnable_parts (needs_in m.tasks) (phases_of m) t low.runs in
    let size = phases_size m in
    let lt : t < length m.tasks = omega (arith, low.there, length_needs m.tasks) in
    let lm : t < length (phases_of m) = omega (arith, lt, size) in
    let phases = phases_more (all_waiting (length m.tasks)) m.history (Take w t) in
    let state = state_more (acts_of outcome m.tasks) (start (acts_of outcome m.tasks) m.slots) m.history (Take w t) in
    record {
      needs = h.needs;
      phases = ap (λ (ms : List Phase). set ms t (Running w)) h.phases ∙ sym phases;
      store_is = ap (λ (s : List (Option S)). blank (need (needs_in m.tasks) t).writes s) h.store_is
          ∙ ap (λ (n : Needs). blank n.writes (state_of outcome m).store) (sym (act_needs outcome m.tasks t))
          ∙ ap (λ (s : State S). s.store) (sym state);
      ordered = h.ordered;
      run = run_more (needs_in m.tasks) (all_waiting (length m.tasks)) m.history (Take w t) h.run
          (and_from (nat_lt t (length (needs_in m.tasks))) (is_runnable (needs_in m.tasks) (phases_of m) t && (not (is_busy (phases_of m) w) && not (is_stopped (phases_of m)))) (lt-ltb t (length (needs_in m.tasks)) low.there)
          (and_from (is_runnable (needs_in m.tasks) (phases_of m) t) (not (is_busy (phases_of m) w) && not (is_stopped (phases_of m))) low.runs
          (and_from (not (is_busy (phases_of m) w)) (not (is_stopped (phases_of m))) (not_from_false (is_busy (phases_of m) w) idle) (not_from_false (is_stopped (phases_of m)) going))));
      jobs_there = subst (λ (ms : List Phase). HasJobs m.tasks (set jobs t None) ms) (sym phases) (jobs_take m.tasks jobs (phases_of m) w t lm h.jobs_there);
      history_room = subst (λ (ms : List Phase). length (m.history ++ Take w t ∷ []) + events_left ms (length m.tasks) ≤ later) (sym phases)
          (omega (arith, length_push m.history (Take w t), events_take (needs_in m.tasks) (phases_of m) w t (length m.tasks) lt (sym size) parts.0, h.history_room, more));
      is_empty = h.is_empty;
      slots_room = h.slots_room;
    }

pub machine_finish : {J S : Type 0} (outcome : J → List S → List S → List S) (m : MachineState J S) (board : BoardState) (store : List (Option S)) (jobs : List (Option (Ready J S))) (events later : ℕ) (empty : List S) (room w t : ℕ) (wrote : Bool) (slots : List S) → IsMachine outcome m board store jobs events empty room → events ≤ later → is_under w (phase_of (phases_of m) t) ≡ true → slots ≡ finished (act (acts_of outcome m.tasks) t) (given_to (state_of outcome m) t) wrote
    → IsMachine outcome (with_event m (Finish w t wrote)) (with_phase board t (Done wrote)) (put (need (needs_in m.tasks) t).writes slots store) jobs later empty room
machine_finish {J} {S} outcome m board store jobs events later empty room w t wrote slots h more under allowed =
    let runs : is_running (phase_of (phases_of m) t) ≡ true = under_running w (phase_of (phases_of m) t) under in
    let size = phases_size m in
    let lm : t < length (phases_of m) = phase_in (phases_of m) t (running_not_waiting (phase_of (phases_of m) t) runs) in
    let lt : t < length m.tasks = omega (arith, lm, size) in
    let phases = phases_more (all_waiting (length m.tasks)) m.history (Finish w t wrote) in
    let state = state_more (acts_of outcome m.tasks) (start (acts_of outcome m.tasks) m.slots) m.history (Finish w t wrote) in
    record {
      needs = h.needs;
      phases = ap (λ (ms : List Phase). set ms t (Done wrote)) h.phases ∙ sym phases;
      store_is = ap (λ (s : List (Option S)). put (need (needs_in m.tasks) t).writes slots s) h.store_is
          ∙ ap (λ (xs : List S). put (need (needs_in m.tasks) t).writes xs (state_of outcome m).store) allowed
          ∙ ap (λ (n : Needs). put n.writes (finished (act (acts_of outcome m.tasks) t) (given_to (state_of outcome m) t) wrote) (state_of outcome m).store) (sym (act_needs outcome m.tasks t))
          ∙ ap (λ (s : State S). s.store) (sym state);
      ordered = h.ordered;
      run = run_more (needs_in m.tasks) (all_waiting (length m.tasks)) m.history (Finish w t wrote) h.run under;
      jobs_there = subst (λ (ms : List Phase). HasJobs m.tasks jobs ms) (sym phases) (jobs_finish m.tasks jobs (phases_of m) t wrote lm h.jobs_there);
      history_room = subst (λ (ms : List Phase). length (m.history ++ Finish w t wrote ∷ []) + events_left ms (length m.tasks) ≤ later) (sym phases)
          (omega (arith, length_push m.history (Finish w t wrote), events_finish (phases_of m) t (length m.tasks) wrote lt (sym size) runs, h.history_room, more));
      is_empty = h.is_empty;
      slots_room = h.slots_room;
    }

-- the history has room for one more event
pub room_take : {J S : Type 0} (m : MachineState J S) (t : ℕ) (events : ℕ) → length m.history + events_left (phases_of m) (length m.tasks) ≤ events → lowest_runnable (needs_in m.tasks) (phases_of m) ≡ Some t → length m.history < events
room_take m t events l e =
    let low = lowest_parts (needs_in m.tasks) (phases_of m) t e in
    let parts = runnable_parts (needs_in m.tasks) (phases_of m) t low.runs in
    omega (arith, l, events_take (needs_in m.tasks) (phases_of m) 0 t (length m.tasks) (omega (arith, low.there, length_needs m.tasks)) (sym (phases_size m)) parts.0)

pub room_finish : {J S : Type 0} (m : MachineState J S) (w t : ℕ) (events : ℕ) → length m.history + events_left (phases_of m) (length m.tasks) ≤ events → is_under w (phase_of (phases_of m) t) ≡ true → length m.history < events
room_finish m w t events l under =
    let runs : is_running (phase_of (phases_of m) t) ≡ true = under_running w (phase_of (phases_of m) t) under in
    let lm : t < length (phases_of m) = phase_in (phases_of m) t (running_not_waiting (phase_of (phases_of m) t) runs) in
    omega (arith, l, events_finish (phases_of m) t (length m.tasks) true (omega (arith, lm, phases_size m)) (sym (phases_size m)) runs)

-- a task that is runnable is not done
pub undone_if : (ns : List Needs) (ms : List Phase) (t : ℕ) → length ms ≡ length ns → lowest_runnable ns ms ≡ Some t → is_done (phase_of ms t) ≡ false
undone_if ns ms t size e = let low = lowest_parts ns ms t e in waiting_not_done (phase_of ms t) (runnable_parts ns ms t low.runs).0

-- where none is runnable and one is not done, one runs
pub one_runs : {J S : Type 0} (m : MachineState J S) (shared : ℕ) → IsOrdered shared (length m.slots) (needs_in m.tasks) → is_all_done (phases_of m) ≡ false → lowest_runnable (needs_in m.tasks) (phases_of m) ≡ None → is_one_running (phases_of m) ≡ true
one_runs m shared ordered undone none =
    true_from_ne_false (is_one_running (phases_of m)) (λ (rest : is_one_running (phases_of m) ≡ false).
    false≢true (sym (ap (λ (o : Option ℕ). is_some o) none) ∙ some_task_is_runnable (needs_in m.tasks) (phases_of m) ordered.in_order (phases_size m ∙ sym (length_needs m.tasks)) rest undone))

-- what was given out is what a worker gets
pub takes_from : {J S : Type 0} (outcome : J → List S → List S → List S) (m later : MachineState J S) (board : BoardState) (store : List (Option S)) (jobs : List (Option (Ready J S))) (events : ℕ) (empty : List S) (room w t : ℕ) (k : Took J S) → IsMachine outcome m board store jobs events empty room → lowest_runnable (needs_in m.tasks) (phases_of m) ≡ Some t → is_stopped (phases_of m) ≡ false → is_all_done (phases_of m) ≡ false → later ≡ with_event m (Take w t)
    → GivesJob (given_of (need (needs_in m.tasks) t) store) jobs t k → Takes outcome m w k later
takes_from outcome m later board store jobs events empty room w t took.Stopped h e going undone now g = absurd g
takes_from outcome m later board store jobs events empty room w t took.AllDone h e going undone now g = absurd g
takes_from outcome m later board store jobs events empty room w t took.NothingNow h e going undone now g = absurd g
takes_from {J} {S} outcome m later board store jobs events empty room w t (took.Job u job parcel) h e going undone now g =
    let low = lowest_parts (needs_in m.tasks) (phases_of m) t e in
    let has = h.jobs_there t (omega (arith, low.there, length_needs m.tasks)) (runnable_parts (needs_in m.tasks) (phases_of m) t low.runs).0 in
    record {
      taken = now ∙ ap (λ (j : ℕ). with_event m (Take w j)) (sym g.0);
      going = going;
      undone = undone;
      lowest = e ∙ ap (λ (j : ℕ). Some j) (sym g.0);
      job_is = λ d. g.1 has.there.0 has.there.1 ∙ has.same d has.there.0 has.there.1 ∙ ap (λ (j : ℕ). (get_or m.tasks j d).job) (sym g.0);
      parcel_is = subst (λ (j : ℕ). IsParcel (given_of (need (needs_in m.tasks) j) (state_of outcome m).store) parcel) (sym g.0) (subst (λ (s : List (Option S)). IsParcel (given_of (need (needs_in m.tasks) t) s) parcel) h.store_is g.2);
    }
