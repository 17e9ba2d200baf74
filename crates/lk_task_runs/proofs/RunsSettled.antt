-- The laws of runs of ordered tasks.
use Rattle.std.proofs.Common.{◌≡◌, ℕ, zero, suc, ◌<◌, Bool, true, false, List, [], ◌∷◌, length, map, Option, Some, is_some, refl, sym, ap, ◌∙◌, subst, arith}
use Rattle.std.proofs.lemmas.Bool.{both_ways}
use Rattle.std.proofs.lemmas.List.{length-map}
use Rattle.lk_task_runs.specs.declared.tasks.Needs.{Needs}
use Rattle.lk_task_runs.specs.declared.tasks.Phase.{Phase}
use Rattle.lk_task_runs.specs.declared.tasks.Phase.TheVariants.{Waiting}
use Rattle.lk_task_runs.specs.declared.tasks.Event.{Event}
use Rattle.lk_task_runs.specs.Below.{has}
use Rattle.lk_task_runs.specs.Phases.{phase_of, is_running, has_wrote, is_complete, is_one_running}
use Rattle.lk_task_runs.specs.Turns.{all_waiting, is_run}
use Rattle.lk_task_runs.specs.Orders.{IsOrdered}
use Rattle.lk_task_runs.specs.Runs.{Act, State, needs_of, slot, start, state_after}
use Rattle.lk_task_runs.specs.TaskLaws.{IsSized, AnyInterleaving, NoSlotIsLost}
use Rattle.lk_task_runs.proofs.NumbersBelow.{all_at, any_none_at}
use Rattle.lk_task_runs.proofs.SlotsPut.{same_stores, kinds, all_present}
use Rattle.lk_task_runs.proofs.MaskedRuns.{masked, masked-all, length-masked, kinds-masked}
use Rattle.lk_task_runs.proofs.ScheduledTasks.{phase_in, running_not_waiting, wrote_not_running}
use Rattle.lk_task_runs.proofs.ReachedStates.{IsReady, IsReached, need_act, reached_start, reached_run, phases-state_after, keeps_any, kinds_there}

some_slot : {S : Type 0} (slots : List S) (n : ℕ) → n < length slots → is_some (slot (map Some slots) n) ≡ true
some_slot [] n l = absurd (omega arith)
some_slot (x ∷ xs) zero l = refl
some_slot (x ∷ xs) (suc n) l = some_slot xs n (omega arith)

-- ordered tasks are ready
pub ready_from : {S : Type 0} (acts : List (Act S)) (slots : List S) (shared : ℕ) → IsOrdered shared (length slots) (needs_of acts) → IsSized acts → IsReady acts (map Some slots)
ready_from acts slots shared ordered sized =
    record {
      in_order = ordered.in_order;
      there = λ t n h. some_slot slots n (ordered.writes_there t n (subst (λ (x : Needs). has n x.writes ≡ true) (sym (need_act acts t)) h));
      sized = sized;
    }

-- where no task runs the store is as after those tasks alone that have written
pub settled_all : {S : Type 0} (acts : List (Act S)) (first : List (Option S)) (s : State S) → IsReached acts first s → ((a : ℕ) → is_running (phase_of s.phases a) ≡ true → ⊥) → s.store ≡ masked acts s.phases first
settled_all acts first s reached rest =
    same_stores s.store (masked acts s.phases first) (reached.store_size ∙ sym (length-masked acts s.phases first)) (λ n. reached.settled n (λ a ra. absurd (rest a ra)))

-- the state that a run reaches
pub reached_by : {S : Type 0} (acts : List (Act S)) (slots : List S) (shared : ℕ) (history : List Event) → IsOrdered shared (length slots) (needs_of acts) → IsSized acts → is_run (needs_of acts) (all_waiting (length acts)) history ≡ true → IsReached acts (map Some slots) (state_after acts (start acts slots) history)
reached_by acts slots shared history ordered sized run =
    reached_run acts (map Some slots) (start acts slots) history (ready_from acts slots shared ordered sized) (reached_start acts slots) run

pub any_interleaving : (S : Type 0) → AnyInterleaving S
any_interleaving S acts slots shared history ordered sized run complete =
    let reached = reached_by acts slots shared history ordered sized run in
    let phases = phases-state_after acts (start acts slots) history in
    let all : is_complete (state_after acts (start acts slots) history).phases ≡ true = ap is_complete phases ∙ complete in
    let size : length (state_after acts (start acts slots) history).phases ≡ length acts = reached.scheduled.size ∙ length-map acts (λ (x : Act S). x.needs) in
    settled_all acts (map Some slots) (state_after acts (start acts slots) history) reached
    (λ a ra. both_ways (is_running (phase_of (state_after acts (start acts slots) history).phases a))
    (wrote_not_running (phase_of (state_after acts (start acts slots) history).phases a) (all_at has_wrote (state_after acts (start acts slots) history).phases a Waiting all (phase_in (state_after acts (start acts slots) history).phases a (running_not_waiting (phase_of (state_after acts (start acts slots) history).phases a) ra)))) ra)
    ∙ masked-all acts (state_after acts (start acts slots) history).phases (map Some slots) size all

-- where no task runs none of a list of phases runs
pub none_runs : (ms : List Phase) → is_one_running ms ≡ false → (a : ℕ) → is_running (phase_of ms a) ≡ true → ⊥
none_runs ms rest a ra = both_ways (is_running (phase_of ms a)) (any_none_at is_running ms a Waiting rest (phase_in ms a (running_not_waiting (phase_of ms a) ra))) ra

pub no_slot_is_lost : (S : Type 0) → NoSlotIsLost S
no_slot_is_lost S acts slots shared history ordered sized run rest =
    let reached = reached_by acts slots shared history ordered sized run in
    let ready = ready_from acts slots shared ordered sized in
    let k : S → Bool = λ (x : S). true in
    let s : State S = state_after acts (start acts slots) history in
    let still : is_one_running s.phases ≡ false = ap is_one_running (phases-state_after acts (start acts slots) history) ∙ rest in
    let same : s.store ≡ masked acts s.phases (map Some slots) = settled_all acts (map Some slots) s reached (none_runs s.phases still) in
    all_present k s.store slots (ap (λ (r : List (Option S)). kinds k r) same ∙ kinds-masked k acts s.phases (map Some slots) (keeps_any acts sized) (kinds_there acts (map Some slots) ready k))
