-- The store after those tasks alone that have written, in order of their numbers.
use Rattle.std.proofs.Common.{◌≡◌, ℕ, zero, suc, ◌<◌, Bool, true, false, cond, ◌||◌, List, [], ◌∷◌, length, set, map, replicate, Option, is_some, refl, sym, ap, ◌∙◌, subst, arith}
use Rattle.std.specs.List.{list_all}
use Rattle.std.proofs.lemmas.Bool.{or_parts, and_parts}
use Rattle.lk_task_runs.specs.declared.tasks.Needs.{Needs}
use Rattle.lk_task_runs.specs.declared.tasks.Phase.{Phase}
use Rattle.lk_task_runs.specs.declared.tasks.Phase.TheVariants.{Waiting, Done}
use Rattle.lk_task_runs.specs.Below.{has}
use Rattle.lk_task_runs.specs.Phases.{phase_of, has_wrote, is_complete}
use Rattle.lk_task_runs.specs.Orders.{touches, writes_for, shares}
use Rattle.lk_task_runs.specs.Runs.{Act, act, slot, values, put, alone, in_order}
use Rattle.lk_task_runs.proofs.NumbersBelow.{none_at, flipped}
use Rattle.lk_task_runs.proofs.SlotsPut.{length-put, slot-put_other, values-same, put_comm, kinds, kinds-put, map-values}

abbrev pub masked : {S : Type 0} → List (Act S) → List Phase → List (Option S) → List (Option S)
masked [] ms s = s
masked (a ∷ acts) [] s = s
masked (a ∷ acts) (m ∷ ms) s = masked acts ms (cond (has_wrote m) (alone a s) s)

-- a slot that one task writes is no slot that a task apart from it touches
pub apart_at : (a b : Needs) (n : ℕ) → shares a b ≡ false → touches b n ≡ true → has n a.writes ≡ false
apart_at a b n e h = flipped (has n a.writes) (touches b n) (λ w. none_at (touches b) a.writes n (or_parts (writes_for a b) (writes_for b a) e).0 w) h

pub reads_touch : (a : Needs) (n : ℕ) → has n a.reads ≡ true → touches a n ≡ true
reads_touch a n e = ap (λ (b : Bool). b || has n a.writes) e

or_second : (x y : Bool) → y ≡ true → (x || y) ≡ true
or_second true y e = refl
or_second false y e = e

pub writes_touch : (a : Needs) (n : ℕ) → has n a.writes ≡ true → touches a n ≡ true
writes_touch a n e = or_second (has n a.reads) (has n a.writes) e

shares_back : (a b : Needs) → shares a b ≡ false → shares b a ≡ false
shares_back a b e = let parts = or_parts (writes_for a b) (writes_for b a) e in ap (λ (x : Bool). x || writes_for a b) parts.1 ∙ parts.0

-- tasks that are apart may change places
alone_comm : {S : Type 0} (a c : Act S) (s : List (Option S)) → shares a.needs c.needs ≡ false → alone c (alone a s) ≡ alone a (alone c s)
alone_comm {S} a c s e =
    let back : shares c.needs a.needs ≡ false = shares_back a.needs c.needs e in
    let xa : List S = a.effect (values s a.needs.reads) (values s a.needs.writes) in
    let xc : List S = c.effect (values s c.needs.reads) (values s c.needs.writes) in
    let c_reads : values (alone a s) c.needs.reads ≡ values s c.needs.reads = values-same c.needs.reads (alone a s) s (λ n h. slot-put_other a.needs.writes xa s n (apart_at a.needs c.needs n e (reads_touch c.needs n h))) in
    let c_writes : values (alone a s) c.needs.writes ≡ values s c.needs.writes = values-same c.needs.writes (alone a s) s (λ n h. slot-put_other a.needs.writes xa s n (apart_at a.needs c.needs n e (writes_touch c.needs n h))) in
    let a_reads : values (alone c s) a.needs.reads ≡ values s a.needs.reads = values-same a.needs.reads (alone c s) s (λ n h. slot-put_other c.needs.writes xc s n (apart_at c.needs a.needs n back (reads_touch a.needs n h))) in
    let a_writes : values (alone c s) a.needs.writes ≡ values s a.needs.writes = values-same a.needs.writes (alone c s) s (λ n h. slot-put_other c.needs.writes xc s n (apart_at c.needs a.needs n back (writes_touch a.needs n h))) in
    ap (λ (r : List S). put c.needs.writes (c.effect r (values (alone a s) c.needs.writes)) (alone a s)) c_reads
    ∙ ap (λ (w : List S). put c.needs.writes (c.effect (values s c.needs.reads) w) (alone a s)) c_writes
    ∙ put_comm a.needs.writes xa c.needs.writes xc s (λ n h. apart_at c.needs a.needs n back (writes_touch a.needs n h))
    ∙ sym (ap (λ (r : List S). put a.needs.writes (a.effect r (values (alone c s) a.needs.writes)) (alone c s)) a_reads
    ∙ ap (λ (w : List S). put a.needs.writes (a.effect (values s a.needs.reads) w) (alone c s)) a_writes)

-- a task that is apart from those that have written may come after them
alone_passes : {S : Type 0} (acts : List (Act S)) (ms : List Phase) (s : List (Option S)) (a : Act S) → ((c : ℕ) → has_wrote (phase_of ms c) ≡ true → shares a.needs (act acts c).needs ≡ false) → masked acts ms (alone a s) ≡ alone a (masked acts ms s)
alone_passes [] ms s a h = refl
alone_passes (c ∷ acts) [] s a h = refl
alone_passes {S} (c ∷ acts) (m ∷ ms) s a h = go (has_wrote m) refl (λ r. alone_passes acts ms r a (λ k e. h (suc k) e))
  where
    go : (b : Bool) → has_wrote m ≡ b → ((r : List (Option S)) → masked acts ms (alone a r) ≡ alone a (masked acts ms r)) → masked acts ms (cond b (alone c (alone a s)) (alone a s)) ≡ alone a (masked acts ms (cond b (alone c s) s))
    go true e later = ap (λ (r : List (Option S)). masked acts ms r) (alone_comm a c s (h 0 e)) ∙ later (alone c s)
    go false e later = later s

-- a task that ends may come last, where it is apart from the later ones that have written
pub masked-joins : {S : Type 0} (acts : List (Act S)) (ms : List Phase) (s : List (Option S)) (j : ℕ) → j < length acts → j < length ms → has_wrote (phase_of ms j) ≡ false → ((c : ℕ) → j < c → has_wrote (phase_of ms c) ≡ true → shares (act acts j).needs (act acts c).needs ≡ false) → masked acts (set ms j (Done true)) s ≡ alone (act acts j) (masked acts ms s)
masked-joins [] ms s j l k e h = absurd (omega arith)
masked-joins (a ∷ acts) [] s j l k e h = absurd (omega arith)
masked-joins {S} (a ∷ acts) (m ∷ ms) s zero l k e h =
    alone_passes acts ms s a (λ c w. h (suc c) (omega arith) w) ∙ ap (λ (b : Bool). alone a (masked acts ms (cond b (alone a s) s))) (sym e)
masked-joins (a ∷ acts) (m ∷ ms) s (suc j) l k e h =
    masked-joins acts ms (cond (has_wrote m) (alone a s) s) j (omega arith) (omega arith) e (λ c below w. h (suc c) (omega arith) w)

-- any other turn of a task changes nothing
pub masked-same : {S : Type 0} (acts : List (Act S)) (ms : List Phase) (s : List (Option S)) (j : ℕ) (x : Phase) → has_wrote (phase_of ms j) ≡ has_wrote x → masked acts (set ms j x) s ≡ masked acts ms s
masked-same [] ms s j x e = refl
masked-same (a ∷ acts) [] s j x e = refl
masked-same {S} (a ∷ acts) (m ∷ ms) s zero x e = ap (λ (b : Bool). masked acts ms (cond b (alone a s) s)) (sym e)
masked-same (a ∷ acts) (m ∷ ms) s (suc j) x e = masked-same acts ms (cond (has_wrote m) (alone a s) s) j x e

-- where none has written nothing is changed
pub masked-none : {S : Type 0} (acts : List (Act S)) (s : List (Option S)) → masked acts (replicate (length acts) Waiting) s ≡ s
masked-none [] s = refl
masked-none (a ∷ acts) s = masked-none acts s

-- where all have written this is the store after all tasks
pub masked-all : {S : Type 0} (acts : List (Act S)) (ms : List Phase) (s : List (Option S)) → length ms ≡ length acts → is_complete ms ≡ true → masked acts ms s ≡ in_order acts s
masked-all [] ms s e h = refl
masked-all (a ∷ acts) [] s e h = absurd (omega arith)
masked-all {S} (a ∷ acts) (m ∷ ms) s e h =
    let parts = and_parts (has_wrote m) (list_all has_wrote ms) h in
    ap (λ (b : Bool). masked acts ms (cond b (alone a s) s)) parts.0 ∙ masked-all acts ms (alone a s) (omega arith) parts.1

pub length-masked : {S : Type 0} (acts : List (Act S)) (ms : List Phase) (s : List (Option S)) → length (masked acts ms s) ≡ length s
length-masked [] ms s = refl
length-masked (a ∷ acts) [] s = refl
length-masked {S} (a ∷ acts) (m ∷ ms) s = length-masked acts ms (cond (has_wrote m) (alone a s) s) ∙ go (has_wrote m)
  where
    go : (b : Bool) → length (cond b (alone a s) s) ≡ length s
    go true = length-put a.needs.writes (a.effect (values s a.needs.reads) (values s a.needs.writes)) s
    go false = refl

-- each task writes what is of the kinds that were there
abbrev pub KeepsKinds : {S : Type 0} → (S → Bool) → List (Act S) → Type 0
KeepsKinds {S} k acts = (t : ℕ) (read write : List S) → map k ((act acts t).effect read write) ≡ map k write

-- each slot that a task writes has a value
abbrev pub AreThere : {S B : Type 0} → List (Act S) → List (Option B) → Type 0
AreThere acts s = (t n : ℕ) → has n (act acts t).needs.writes ≡ true → is_some (slot s n) ≡ true

kinds-alone : {S : Type 0} (k : S → Bool) (a : Act S) (s : List (Option S)) → ((read write : List S) → map k (a.effect read write) ≡ map k write) → ((n : ℕ) → has n a.needs.writes ≡ true → is_some (slot (kinds k s) n) ≡ true) → kinds k (alone a s) ≡ kinds k s
kinds-alone k a s keeps there =
    kinds-put k a.needs.writes (a.effect (values s a.needs.reads) (values s a.needs.writes)) s (keeps (values s a.needs.reads) (values s a.needs.writes) ∙ map-values k s a.needs.writes) there

-- the kinds of what is in the slots stay
pub kinds-masked : {S : Type 0} (k : S → Bool) (acts : List (Act S)) (ms : List Phase) (s : List (Option S)) → KeepsKinds k acts → AreThere acts (kinds k s) → kinds k (masked acts ms s) ≡ kinds k s
kinds-masked k [] ms s keeps there = refl
kinds-masked k (a ∷ acts) [] s keeps there = refl
kinds-masked {S} k (a ∷ acts) (m ∷ ms) s keeps there =
    let here : kinds k (cond (has_wrote m) (alone a s) s) ≡ kinds k s = go (has_wrote m) in
    kinds-masked k acts ms (cond (has_wrote m) (alone a s) s) (λ t. keeps (suc t)) (λ t n h. subst (λ (r : List (Option Bool)). is_some (slot r n) ≡ true) (sym here) (there (suc t) n h)) ∙ here
  where
    go : (b : Bool) → kinds k (cond b (alone a s) s) ≡ kinds k s
    go true = kinds-alone k a s (keeps 0) (λ n h. there 0 n h)
    go false = refl
