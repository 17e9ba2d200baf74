-- What is known of the state that a run of ordered tasks reaches: a slot that no running task writes is as after those
-- tasks alone that have written, and what a running task was given is so too.
use Rattle.std.proofs.Common.{◌≡◌, ℕ, zero, suc, ◌<◌, ◌⊎◌, Bool, true, false, not, ◌&&◌, List, [], ◌∷◌, length, get_or, set, map, replicate, nat_lt, Option, None, Some, is_some, refl, sym, ap, ◌∙◌, subst, inl, inr, arith}
use Rattle.std.proofs.lemmas.Bool.{both_ways, and_parts, ltb-true, cases_eq, cases_Bool}
use Rattle.std.proofs.lemmas.List.{get_or-set_same, get_or-set_other, length-set, length-map, length-replicate}
use Rattle.lk_task_runs.specs.declared.tasks.Needs.{Needs}
use Rattle.lk_task_runs.specs.declared.tasks.Phase.{Phase}
use Rattle.lk_task_runs.specs.declared.tasks.Phase.TheVariants.{Waiting, Running, Done}
use Rattle.lk_task_runs.specs.declared.tasks.Event.{Event}
use Rattle.lk_task_runs.specs.declared.tasks.Event.TheVariants.{Take, Finish}
use Rattle.lk_task_runs.specs.Below.{has}
use Rattle.lk_task_runs.specs.Phases.{need, phase_of, is_waiting, is_running, is_under, is_runnable, is_busy, is_stopped}
use Rattle.lk_task_runs.specs.Turns.{all_waiting, turn, phases_after, is_lawful, is_run}
use Rattle.lk_task_runs.specs.Orders.{touches, shares, first_not_ordered}
use Rattle.lk_task_runs.specs.Runs.{Act, Given, State, act, needs_of, nothing, given_to, slot, put, given_of, finished, step, state_after, start, no_act}
use Rattle.lk_task_runs.specs.TaskLaws.{IsSized}
use Rattle.lk_task_runs.proofs.NumbersBelow.{get_or-map_any}
use Rattle.lk_task_runs.proofs.SlotsPut.{length-put, length-blank, slot-put_other, slot-blank_other, slot-put_same, put-values, length-values, given-same, kinds, slot-kinds, is_some-map}
use Rattle.lk_task_runs.proofs.MaskedRuns.{masked, apart_at, masked-joins, masked-same, masked-none, length-masked, kinds-masked, KeepsKinds, AreThere}
use Rattle.lk_task_runs.proofs.ScheduledTasks.{IsScheduled, scheduled_take, scheduled_finish, apart_later, apart_both, phase_set_other, phase_set_same, phase_in, runnable_parts, running_not_waiting, running_not_wrote, waiting_not_running, waiting_not_wrote, wrote_not_waiting, under_running}

-- what is supposed of the tasks and of the slots at the start
pub record IsReady {S : Type 0} (acts : List (Act S)) (first : List (Option S)) : Type 0 where
  pub in_order : first_not_ordered (needs_of acts) ≡ None
  pub there : AreThere acts first
  pub sized : IsSized acts

pub record IsReached {S : Type 0} (acts : List (Act S)) (first : List (Option S)) (s : State S) : Type 0 where
  pub scheduled : IsScheduled (needs_of acts) s.phases
  pub given_size : length s.given ≡ length acts
  pub store_size : length s.store ≡ length first
  pub settled : (n : ℕ) → ((a : ℕ) → is_running (phase_of s.phases a) ≡ true → has n (act acts a).needs.writes ≡ false) → slot s.store n ≡ slot (masked acts s.phases first) n
  pub given_is : (a : ℕ) → is_running (phase_of s.phases a) ≡ true → given_to s a ≡ given_of (act acts a).needs (masked acts s.phases first)

pub need_act : {S : Type 0} (acts : List (Act S)) (t : ℕ) → need (needs_of acts) t ≡ (act acts t).needs
need_act {S} acts t = get_or-map_any (λ (a : Act S). a.needs) acts t no_act

shares_acts : {S : Type 0} (acts : List (Act S)) (a c : ℕ) → shares (need (needs_of acts) a) (need (needs_of acts) c) ≡ false → shares (act acts a).needs (act acts c).needs ≡ false
shares_acts acts a c h =
    subst (λ (x : Needs). shares x (act acts c).needs ≡ false) (need_act acts a)
    (subst (λ (y : Needs). shares (need (needs_of acts) a) y ≡ false) (need_act acts c) h)

const_map : {S : Type 0} (xs : List S) → map (λ (x : S). true) xs ≡ replicate (length xs) true
const_map [] = refl
const_map (x ∷ xs) = ap (λ (bs : List Bool). true ∷ bs) (const_map xs)

pub keeps_any : {S : Type 0} (acts : List (Act S)) → IsSized acts → KeepsKinds (λ (x : S). true) acts
keeps_any acts sized t read write =
    const_map ((act acts t).effect read write) ∙ ap (λ (n : ℕ). replicate n true) (sized t read write) ∙ sym (const_map write)

pub kinds_there : {S : Type 0} (acts : List (Act S)) (first : List (Option S)) → IsReady acts first → (k : S → Bool) → AreThere acts (kinds k first)
kinds_there acts first ready k u m e = ap (λ (o : Option Bool). is_some o) (slot-kinds k first m) ∙ is_some-map k (slot first m) ∙ ready.there u m e

-- the slots that a task writes have values after any of the tasks
pub masked_there : {S : Type 0} (acts : List (Act S)) (first : List (Option S)) (ms : List Phase) → IsReady acts first → AreThere acts (masked acts ms first)
masked_there {S} acts first ms ready t n h =
    let k : S → Bool = λ (x : S). true in
    let some : (r : List (Option S)) → is_some (slot (kinds k r) n) ≡ is_some (slot r n) = λ (r : List (Option S)). ap (λ (o : Option Bool). is_some o) (slot-kinds k r n) ∙ is_some-map k (slot r n) in
    sym (some (masked acts ms first)) ∙ ap (λ (r : List (Option Bool)). is_some (slot r n)) (kinds-masked k acts ms first (keeps_any acts ready.sized) (kinds_there acts first ready k)) ∙ some first ∙ ready.there t n h

-- no running task writes what a runnable task touches
pub runnable_free : {S : Type 0} (acts : List (Act S)) (ms : List Phase) (t n a : ℕ) → first_not_ordered (needs_of acts) ≡ None → IsScheduled (needs_of acts) ms → t < length acts → is_runnable (needs_of acts) ms t ≡ true → touches (act acts t).needs n ≡ true → is_running (phase_of ms a) ≡ true → has n (act acts a).needs.writes ≡ false
runnable_free {S} acts ms t n a order s l runs h ra =
    let size : length (needs_of acts) ≡ length acts = length-map acts (λ (x : Act S). x.needs) in
    let within : t < length (needs_of acts) = omega (arith, size, l) in
    let inside : t < length ms = omega (arith, within, s.size) in
    let parts = runnable_parts (needs_of acts) ms t runs in
    let other : a ≡ t → ⊥ = λ same. both_ways (is_running (phase_of ms t)) (waiting_not_running (phase_of ms t) parts.0) (subst (λ (j : ℕ). is_running (phase_of ms j) ≡ true) same ra) in
    let later = scheduled_take (needs_of acts) ms 0 t s within parts.0 parts.1 in
    let still : is_running (phase_of (set ms t (Running 0)) a) ≡ true = ap is_running (phase_set_other ms t a (Running 0) other) ∙ ra in
    let taken : is_running (phase_of (set ms t (Running 0)) t) ≡ true = ap is_running (phase_set_same ms t (Running 0) inside) in
    apart_at (act acts a).needs (act acts t).needs n (shares_acts acts a t (apart_both (needs_of acts) (set ms t (Running 0)) a t order later still taken other)) h

-- what is in a slot that a runnable task touches is as after those tasks alone that have written
pub runnable_settled : {S : Type 0} (acts : List (Act S)) (first : List (Option S)) (s : State S) (t n : ℕ) → IsReady acts first → IsReached acts first s → t < length acts → is_runnable (needs_of acts) s.phases t ≡ true → touches (act acts t).needs n ≡ true → slot s.store n ≡ slot (masked acts s.phases first) n
runnable_settled acts first s t n ready reached l runs h = reached.settled n (λ a ra. runnable_free acts s.phases t n a ready.in_order reached.scheduled l runs h ra)

pub reached_take : {S : Type 0} (acts : List (Act S)) (first : List (Option S)) (s : State S) (w t : ℕ) → IsReady acts first → IsReached acts first s → t < length acts → is_runnable (needs_of acts) s.phases t ≡ true → IsReached acts first (step acts s (Take w t))
reached_take {S} acts first s w t ready reached l runs =
    let size : length (needs_of acts) ≡ length acts = length-map acts (λ (x : Act S). x.needs) in
    let within : t < length (needs_of acts) = omega (arith, size, l) in
    let inside : t < length s.phases = omega (arith, within, reached.scheduled.size) in
    let parts = runnable_parts (needs_of acts) s.phases t runs in
    let same : masked acts (set s.phases t (Running w)) first ≡ masked acts s.phases first = masked-same acts s.phases first t (Running w) (waiting_not_wrote (phase_of s.phases t) parts.0) in
    let taken : is_running (phase_of (set s.phases t (Running w)) t) ≡ true = ap is_running (phase_set_same s.phases t (Running w) inside) in
    let others : (a : ℕ) → is_running (phase_of s.phases a) ≡ true → a ≡ t → ⊥ = λ (a : ℕ) (ra : is_running (phase_of s.phases a) ≡ true) (e : a ≡ t). both_ways (is_running (phase_of s.phases t)) (waiting_not_running (phase_of s.phases t) parts.0) (subst (λ (j : ℕ). is_running (phase_of s.phases j) ≡ true) e ra) in
    record {
      scheduled = scheduled_take (needs_of acts) s.phases w t reached.scheduled within parts.0 parts.1;
      given_size = length-set s.given t (given_of (act acts t).needs s.store) ∙ reached.given_size;
      store_size = length-blank (act acts t).needs.writes s.store ∙ reached.store_size;
      settled = λ n h. slot-blank_other (act acts t).needs.writes s.store n (h t taken)
          ∙ reached.settled n (λ a ra. h a (ap is_running (phase_set_other s.phases t a (Running w) (others a ra)) ∙ ra))
          ∙ ap (λ (r : List (Option S)). slot r n) (sym same);
      given_is = λ a ra. given_taken acts first s w t ready reached l runs same a ra (cases_eq a t);
    }
  where
    given_taken : (acts : List (Act S)) (first : List (Option S)) (s : State S) (w t : ℕ) → IsReady acts first → IsReached acts first s → t < length acts → is_runnable (needs_of acts) s.phases t ≡ true → masked acts (set s.phases t (Running w)) first ≡ masked acts s.phases first → (a : ℕ) → is_running (phase_of (set s.phases t (Running w)) a) ≡ true → (a ≡ t) ⊎ (a ≡ t → ⊥) → get_or (set s.given t (given_of (act acts t).needs s.store)) a nothing ≡ given_of (act acts a).needs (masked acts (set s.phases t (Running w)) first)
    given_taken acts first s w t ready reached l runs same a ra (inl e) =
        let here : get_or (set s.given t (given_of (act acts t).needs s.store)) t nothing ≡ given_of (act acts t).needs (masked acts (set s.phases t (Running w)) first) =
        get_or-set_same s.given t (given_of (act acts t).needs s.store) nothing (omega (arith, l, reached.given_size))
        ∙ given-same (act acts t).needs s.store (masked acts s.phases first) (λ n h. runnable_settled acts first s t n ready reached l runs h)
        ∙ ap (λ (r : List (Option S)). given_of (act acts t).needs r) (sym same) in
        subst (λ (j : ℕ). get_or (set s.given t (given_of (act acts t).needs s.store)) j nothing ≡ given_of (act acts j).needs (masked acts (set s.phases t (Running w)) first)) (sym e) here
    given_taken acts first s w t ready reached l runs same a ra (inr other) =
        get_or-set_other s.given t a (given_of (act acts t).needs s.store) nothing other
        ∙ reached.given_is a (ap is_running (sym (phase_set_other s.phases t a (Running w) other)) ∙ ra)
        ∙ ap (λ (r : List (Option S)). given_of (act acts a).needs r) (sym same)

-- the store after a task has ended, over those tasks that have written
finished_masked : {S : Type 0} (acts : List (Act S)) (first : List (Option S)) (s : State S) (t : ℕ) (wrote : Bool) → IsReady acts first → IsReached acts first s → t < length acts → is_running (phase_of s.phases t) ≡ true → masked acts (set s.phases t (Done wrote)) first ≡ put (act acts t).needs.writes (finished (act acts t) (given_to s t) wrote) (masked acts s.phases first)
finished_masked {S} acts first s t true ready reached l runs =
    let size : length (needs_of acts) ≡ length acts = length-map acts (λ (x : Act S). x.needs) in
    let inside : t < length s.phases = omega (arith, l, size, reached.scheduled.size) in
    masked-joins acts s.phases first t l inside (running_not_wrote (phase_of s.phases t) runs)
    (λ c low w. shares_acts acts t c (apart_later (needs_of acts) s.phases t c ready.in_order reached.scheduled runs (wrote_not_waiting (phase_of s.phases c) w) low))
    ∙ ap (λ (g : Given S). put (act acts t).needs.writes (finished (act acts t) g true) (masked acts s.phases first)) (sym (reached.given_is t runs))
finished_masked {S} acts first s t false ready reached l runs =
    masked-same acts s.phases first t (Done false) (running_not_wrote (phase_of s.phases t) runs)
    ∙ sym (ap (λ (g : Given S). put (act acts t).needs.writes (finished (act acts t) g false) (masked acts s.phases first)) (reached.given_is t runs)
    ∙ put-values (act acts t).needs.writes (masked acts s.phases first) (λ n h. masked_there acts first s.phases ready t n h))

-- a task hands back as many values as it writes slots
pub finished_size : {S : Type 0} (acts : List (Act S)) (first : List (Option S)) (s : State S) (t : ℕ) (wrote : Bool) → IsReady acts first → IsReached acts first s → is_running (phase_of s.phases t) ≡ true → length (finished (act acts t) (given_to s t) wrote) ≡ length (act acts t).needs.writes
finished_size {S} acts first s t wrote ready reached runs =
    let full : length (given_to s t).write ≡ length (act acts t).needs.writes = ap (λ (g : Given S). length g.write) (reached.given_is t runs) ∙ length-values (act acts t).needs.writes (masked acts s.phases first) (λ n h. masked_there acts first s.phases ready t n h) in
    go wrote full (ready.sized t (given_to s t).read (given_to s t).write)
  where
    go : (b : Bool) → length (given_to s t).write ≡ length (act acts t).needs.writes → length ((act acts t).effect (given_to s t).read (given_to s t).write) ≡ length (given_to s t).write → length (finished (act acts t) (given_to s t) b) ≡ length (act acts t).needs.writes
    go true e h = h ∙ e
    go false e h = e

pub reached_finish : {S : Type 0} (acts : List (Act S)) (first : List (Option S)) (s : State S) (w t : ℕ) (wrote : Bool) → IsReady acts first → IsReached acts first s → is_under w (phase_of s.phases t) ≡ true → IsReached acts first (step acts s (Finish w t wrote))
reached_finish {S} acts first s w t wrote ready reached under =
    let runs : is_running (phase_of s.phases t) ≡ true = under_running w (phase_of s.phases t) under in
    let size : length (needs_of acts) ≡ length acts = length-map acts (λ (x : Act S). x.needs) in
    let inside : t < length s.phases = phase_in s.phases t (running_not_waiting (phase_of s.phases t) runs) in
    let l : t < length acts = omega (arith, inside, size, reached.scheduled.size) in
    let joined = finished_masked acts first s t wrote ready reached l runs in
    record {
      scheduled = scheduled_finish (needs_of acts) s.phases t wrote reached.scheduled runs;
      given_size = reached.given_size;
      store_size = length-put (act acts t).needs.writes (finished (act acts t) (given_to s t) wrote) s.store ∙ reached.store_size;
      settled = λ n h. put_settled acts first s t wrote ready reached runs joined n h (cases_Bool (has n (act acts t).needs.writes));
      given_is = λ a ra. given_still acts first s t wrote ready reached runs inside joined a ra;
    }
  where
    put_settled : (acts : List (Act S)) (first : List (Option S)) (s : State S) (t : ℕ) (wrote : Bool) → IsReady acts first → IsReached acts first s → is_running (phase_of s.phases t) ≡ true
        → masked acts (set s.phases t (Done wrote)) first ≡ put (act acts t).needs.writes (finished (act acts t) (given_to s t) wrote) (masked acts s.phases first)
        → (n : ℕ) → ((a : ℕ) → is_running (phase_of (set s.phases t (Done wrote)) a) ≡ true → has n (act acts a).needs.writes ≡ false)
        → (has n (act acts t).needs.writes ≡ true) ⊎ (has n (act acts t).needs.writes ≡ false)
        → slot (put (act acts t).needs.writes (finished (act acts t) (given_to s t) wrote) s.store) n ≡ slot (masked acts (set s.phases t (Done wrote)) first) n
    put_settled acts first s t wrote ready reached runs joined n h (inl w) =
        slot-put_same (act acts t).needs.writes (finished (act acts t) (given_to s t) wrote) s.store (masked acts s.phases first) n (reached.store_size ∙ sym (length-masked acts s.phases first)) (omega (arith, finished_size acts first s t wrote ready reached runs)) w
        ∙ ap (λ (r : List (Option S)). slot r n) (sym joined)
    put_settled acts first s t wrote ready reached runs joined n h (inr f) =
        slot-put_other (act acts t).needs.writes (finished (act acts t) (given_to s t) wrote) s.store n f
        ∙ reached.settled n (λ a ra. free_of a ra (cases_eq a t))
        ∙ sym (slot-put_other (act acts t).needs.writes (finished (act acts t) (given_to s t) wrote) (masked acts s.phases first) n f)
        ∙ ap (λ (r : List (Option S)). slot r n) (sym joined)
      where
        free_of : (a : ℕ) → is_running (phase_of s.phases a) ≡ true → (a ≡ t) ⊎ (a ≡ t → ⊥) → has n (act acts a).needs.writes ≡ false
        free_of a ra (inl e) = subst (λ (j : ℕ). has n (act acts j).needs.writes ≡ false) (sym e) f
        free_of a ra (inr other) = h a (ap is_running (phase_set_other s.phases t a (Done wrote) other) ∙ ra)

    given_still : (acts : List (Act S)) (first : List (Option S)) (s : State S) (t : ℕ) (wrote : Bool) → IsReady acts first → IsReached acts first s → is_running (phase_of s.phases t) ≡ true → t < length s.phases
        → masked acts (set s.phases t (Done wrote)) first ≡ put (act acts t).needs.writes (finished (act acts t) (given_to s t) wrote) (masked acts s.phases first)
        → (a : ℕ) → is_running (phase_of (set s.phases t (Done wrote)) a) ≡ true → given_to s a ≡ given_of (act acts a).needs (masked acts (set s.phases t (Done wrote)) first)
    given_still acts first s t wrote ready reached runs inside joined a ra =
        let other : a ≡ t → ⊥ = λ (e : a ≡ t). both_ways (is_running (phase_of (set s.phases t (Done wrote)) t)) (ap is_running (phase_set_same s.phases t (Done wrote) inside)) (subst (λ (j : ℕ). is_running (phase_of (set s.phases t (Done wrote)) j) ≡ true) e ra) in
        let old : is_running (phase_of s.phases a) ≡ true = ap is_running (sym (phase_set_other s.phases t a (Done wrote) other)) ∙ ra in
        let apart = shares_acts acts t a (apart_both (needs_of acts) s.phases t a ready.in_order reached.scheduled runs old (λ (e : t ≡ a). other (sym e))) in
        reached.given_is a old
        ∙ given-same (act acts a).needs (masked acts s.phases first) (put (act acts t).needs.writes (finished (act acts t) (given_to s t) wrote) (masked acts s.phases first)) (λ n h. sym (slot-put_other (act acts t).needs.writes (finished (act acts t) (given_to s t) wrote) (masked acts s.phases first) n (apart_at (act acts t).needs (act acts a).needs n apart h)))
        ∙ ap (λ (r : List (Option S)). given_of (act acts a).needs r) (sym joined)

get_or-replicate_any : {X : Type 0} (n i : ℕ) (x : X) → get_or (replicate n x) i x ≡ x
get_or-replicate_any zero i x = refl
get_or-replicate_any (suc n) zero x = refl
get_or-replicate_any (suc n) (suc i) x = get_or-replicate_any n i x

-- before any event nothing is done
pub reached_start : {S : Type 0} (acts : List (Act S)) (slots : List S) → IsReached acts (map Some slots) (start acts slots)
reached_start {S} acts slots =
    let still : (a : ℕ) → phase_of (all_waiting (length acts)) a ≡ Waiting = λ (a : ℕ). get_or-replicate_any (length acts) a Waiting in
    record {
      scheduled = record {
        size = length-replicate (length acts) Waiting ∙ sym (length-map acts (λ (x : Act S). x.needs));
        before = λ k u b t moved reach lt rel. absurd (both_ways (is_waiting (phase_of (all_waiting (length acts)) u)) moved (ap is_waiting (still u)));
      };
      given_size = length-replicate (length acts) nothing;
      store_size = refl;
      settled = λ n h. ap (λ (r : List (Option S)). slot r n) (sym (masked-none acts (map Some slots)));
      given_is = λ a ra. absurd (both_ways (is_running (phase_of (all_waiting (length acts)) a)) (ap is_running (still a)) ra);
    }

pub lawful_take : (ns : List Needs) (ms : List Phase) (w t : ℕ) → is_lawful ns ms (Take w t) ≡ true → (t < length ns) × (is_runnable ns ms t ≡ true)
lawful_take ns ms w t e =
    let first = and_parts (nat_lt t (length ns)) (is_runnable ns ms t && (not (is_busy ms w) && not (is_stopped ms))) e in
    (ltb-true t (length ns) first.0, (and_parts (is_runnable ns ms t) (not (is_busy ms w) && not (is_stopped ms)) first.1).0)

pub reached_step : {S : Type 0} (acts : List (Act S)) (first : List (Option S)) (s : State S) (e : Event) → IsReady acts first → IsReached acts first s → is_lawful (needs_of acts) s.phases e ≡ true → IsReached acts first (step acts s e)
reached_step {S} acts first s (Take w t) ready reached h =
    let parts = lawful_take (needs_of acts) s.phases w t h in
    reached_take acts first s w t ready reached (omega (arith, parts.0, length-map acts (λ (x : Act S). x.needs))) parts.1
reached_step acts first s (Finish w t wrote) ready reached h = reached_finish acts first s w t wrote ready reached h

pub phases-step : {S : Type 0} (acts : List (Act S)) (s : State S) (e : Event) → (step acts s e).phases ≡ turn s.phases e
phases-step acts s (Take w t) = refl
phases-step acts s (Finish w t wrote) = refl

pub phases-state_after : {S : Type 0} (acts : List (Act S)) (s : State S) (es : List Event) → (state_after acts s es).phases ≡ phases_after s.phases es
phases-state_after acts s [] = refl
phases-state_after acts s (e ∷ es) = phases-state_after acts (step acts s e) es ∙ ap (λ (ms : List Phase). phases_after ms es) (phases-step acts s e)

pub reached_run : {S : Type 0} (acts : List (Act S)) (first : List (Option S)) (s : State S) (es : List Event) → IsReady acts first → IsReached acts first s → is_run (needs_of acts) s.phases es ≡ true → IsReached acts first (state_after acts s es)
reached_run acts first s [] ready reached h = reached
reached_run acts first s (e ∷ es) ready reached h =
    let parts = and_parts (is_lawful (needs_of acts) s.phases e) (is_run (needs_of acts) (turn s.phases e) es) h in
    reached_run acts first (step acts s e) es ready (reached_step acts first s e ready reached parts.0) (ap (λ (ms : List Phase). is_run (needs_of acts) ms es) (phases-step acts s e) ∙ parts.1)
