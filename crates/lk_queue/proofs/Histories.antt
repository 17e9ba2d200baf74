-- Histories that grow by one event.
use Rattle.std.proofs.Common.{◌≡◌, ℕ, suc, Bool, true, ◌&&◌, List, [], ◌∷◌, ◌++◌, length, map, refl, sym, ap, ◌∙◌, subst}
use Rattle.std.proofs.lemmas.List.{length-map}
use Rattle.std.proofs.lemmas.Bool.{and_parts, and_from}
use Rattle.lk_task_runs.specs.declared.tasks.Needs.{Needs}
use Rattle.lk_task_runs.specs.declared.tasks.Phase.{Phase}
use Rattle.lk_task_runs.specs.declared.tasks.Event.{Event}
use Rattle.lk_task_runs.specs.Phases.{need}
use Rattle.lk_task_runs.specs.Turns.{all_waiting, turn, phases_after, is_lawful, is_run}
use Rattle.lk_task_runs.specs.Runs.{Act, State, act, needs_of, step, state_after, start}
use Rattle.lk_task_runs.proofs.ReachedStates.{need_act, phases-state_after}
use Rattle.lk_queue.specs.declared.work.Task.{Task}
use Rattle.lk_queue.specs.Machines.{MachineState, task_needs, needs_in, acts_of, phases_of, state_of}

pub phases_more : (ms : List Phase) (h : List Event) (e : Event) → phases_after ms (h ++ e ∷ []) ≡ turn (phases_after ms h) e
phases_more ms [] e = refl
phases_more ms (x ∷ h) e = phases_more (turn ms x) h e

pub state_more : {S : Type 0} (acts : List (Act S)) (s : State S) (h : List Event) (e : Event) → state_after acts s (h ++ e ∷ []) ≡ step acts (state_after acts s h) e
state_more acts s [] e = refl
state_more acts s (x ∷ h) e = state_more acts (step acts s x) h e

pub run_more : (ns : List Needs) (ms : List Phase) (h : List Event) (e : Event) → is_run ns ms h ≡ true → is_lawful ns (phases_after ms h) e ≡ true → is_run ns ms (h ++ e ∷ []) ≡ true
run_more ns ms [] e r l = and_from (is_lawful ns ms e) true l refl
run_more ns ms (x ∷ h) e r l =
    let parts = and_parts (is_lawful ns ms x) (is_run ns (turn ms x) h) r in
    and_from (is_lawful ns ms x) (is_run ns (turn ms x) (h ++ e ∷ [])) parts.0 (run_more ns (turn ms x) h e parts.1 l)

pub needs_of_acts : {J S : Type 0} (outcome : J → List S → List S → List S) (tasks : List (Task J)) → needs_of (acts_of outcome tasks) ≡ needs_in tasks
needs_of_acts outcome [] = refl
needs_of_acts {J} {S} outcome (t ∷ ts) = ap (λ (ns : List Needs). task_needs t ∷ ns) (needs_of_acts outcome ts)

pub length_acts : {J S : Type 0} (outcome : J → List S → List S → List S) (tasks : List (Task J)) → length (acts_of outcome tasks) ≡ length tasks
length_acts outcome [] = refl
length_acts outcome (t ∷ ts) = ap (λ (n : ℕ). suc n) (length_acts outcome ts)

pub length_needs : {J : Type 0} (tasks : List (Task J)) → length (needs_in tasks) ≡ length tasks
length_needs [] = refl
length_needs (t ∷ ts) = ap (λ (n : ℕ). suc n) (length_needs ts)

-- what the task of a number needs
pub act_needs : {J S : Type 0} (outcome : J → List S → List S → List S) (tasks : List (Task J)) (t : ℕ) → (act (acts_of outcome tasks) t).needs ≡ need (needs_in tasks) t
act_needs outcome tasks t = sym (need_act (acts_of outcome tasks) t) ∙ ap (λ (ns : List Needs). need ns t) (needs_of_acts outcome tasks)

-- how far the tasks are in a state is how far they are after its history
pub state_phases : {J S : Type 0} (outcome : J → List S → List S → List S) (m : MachineState J S) → (state_of outcome m).phases ≡ phases_of m
state_phases outcome m =
    phases-state_after (acts_of outcome m.tasks) (start (acts_of outcome m.tasks) m.slots) m.history
    ∙ ap (λ (n : ℕ). phases_after (all_waiting n) m.history) (length_acts outcome m.tasks)
