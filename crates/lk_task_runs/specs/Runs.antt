-- What tasks make of the slots, in a run of any interleaving and alone by number.
use Rattle.std.specs.Prelude.{ℕ, Bool, cond, List, [], ◌∷◌, length, map, replicate, slice_set, Option, None, Some}
use Rattle.std.specs.List.{slice_index_or, cons_option}
use Rattle.lk_task_runs.specs.declared.tasks.Needs.{Needs}
use Rattle.lk_task_runs.specs.declared.tasks.Phase.{Phase}
use Rattle.lk_task_runs.specs.declared.tasks.Event.{Event}
use Rattle.lk_task_runs.specs.declared.tasks.Event.TheVariants.{Take, Finish}
use Rattle.lk_task_runs.specs.Phases.{no_needs}
use Rattle.lk_task_runs.specs.Turns.{all_waiting, turn}

-- a task: what it needs, and what it writes, given what was read and what was in the written slots
pub record Act (S : Type 0) : Type 0 where
  pub needs : Needs
  pub effect : List S → List S → List S

-- what a running task was given: what was in the slots that it reads and in those that it writes
pub record Given (S : Type 0) : Type 0 where
  pub read : List S
  pub write : List S

-- how far the tasks are, what each was given, and the slots, with none where a running task has it
pub record State (S : Type 0) : Type 0 where
  pub phases : List Phase
  pub given : List (Given S)
  pub store : List (Option S)

abbrev pub no_act : {S : Type 0} → Act S
no_act = record { needs = no_needs; effect = λ read write. write }

-- the task of a number
abbrev pub act : {S : Type 0} → List (Act S) → ℕ → Act S
act acts t = slice_index_or acts t no_act

abbrev pub needs_of : {S : Type 0} → List (Act S) → List Needs
needs_of acts = map (λ a. a.needs) acts

abbrev pub nothing : {S : Type 0} → Given S
nothing = record { read = []; write = [] }

-- what the task of a number was given
abbrev pub given_to : {S : Type 0} → State S → ℕ → Given S
given_to s t = slice_index_or s.given t nothing

-- what is in a slot
abbrev pub slot : {S : Type 0} → List (Option S) → ℕ → Option S
slot store n = slice_index_or store n None

-- what is in slots
abbrev pub values : {S : Type 0} → List (Option S) → List ℕ → List S
values store [] = []
values store (n ∷ ns) = cons_option (slot store n) (values store ns)

-- the store after values were put into slots, in turn
abbrev pub put : {S : Type 0} → List ℕ → List S → List (Option S) → List (Option S)
put [] xs store = store
put (n ∷ ns) [] store = store
put (n ∷ ns) (x ∷ xs) store = put ns xs (slice_set store n (Some x))

-- the store after what was in slots was taken out
abbrev pub blank : {S : Type 0} → List ℕ → List (Option S) → List (Option S)
blank [] store = store
blank (n ∷ ns) store = blank ns (slice_set store n None)

-- what a task is given of a store
abbrev pub given_of : {S : Type 0} → Needs → List (Option S) → Given S
given_of needs store = record { read = values store needs.reads; write = values store needs.writes }

-- what a task hands back: what it writes, or what it was given where it reports out of memory
abbrev pub finished : {S : Type 0} → Act S → Given S → Bool → List S
finished a given wrote = cond wrote (a.effect given.read given.write) given.write

-- the state after an event: a task that is taken takes its written slots out; one that finishes puts them back
abbrev pub step : {S : Type 0} → List (Act S) → State S → Event → State S
step acts s (Take w t) = record { phases = turn s.phases (Take w t); given = slice_set s.given t (given_of (act acts t).needs s.store); store = blank (act acts t).needs.writes s.store }
step acts s (Finish w t wrote) = record { phases = turn s.phases (Finish w t wrote); given = s.given; store = put (act acts t).needs.writes (finished (act acts t) (given_to s t) wrote) s.store }

-- the state after a history
abbrev pub state_after : {S : Type 0} → List (Act S) → State S → List Event → State S
state_after acts s [] = s
state_after acts s (e ∷ es) = state_after acts (step acts s e) es

-- the state before any event, with these slots
abbrev pub start : {S : Type 0} → List (Act S) → List S → State S
start acts slots = record { phases = all_waiting (length acts); given = replicate (length acts) nothing; store = map Some slots }

-- the store after a task was run alone
abbrev pub alone : {S : Type 0} → Act S → List (Option S) → List (Option S)
alone a store = put a.needs.writes (a.effect (values store a.needs.reads) (values store a.needs.writes)) store

-- the store after the tasks were run alone by number
abbrev pub in_order : {S : Type 0} → List (Act S) → List (Option S) → List (Option S)
in_order [] store = store
in_order (a ∷ acts) store = in_order acts (alone a store)
