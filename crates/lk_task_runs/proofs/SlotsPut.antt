-- Laws of taking values out of slots and putting values into them.
use Rattle.std.proofs.Common.{◌≡◌, ℕ, suc, ◌==◌, ◌≤◌, Bool, true, false, ◌||◌, List, [], ◌∷◌, length, set, map, Option, None, Some, is_some, option_map, refl, sym, ap, ◌∙◌, subst, inl, inr, arith}
use Rattle.std.specs.List.{cons_option}
use Rattle.std.proofs.lemmas.Bool.{false≢true, eqb-false, eqb-true, or_parts, cases_lt, cases_Bool}
use Rattle.std.proofs.lemmas.List.{get_or-set_same, get_or-set_other, get_or_past, length-set, set_comm, set-get_or, map-set, ext_get_or}
use Rattle.lk_task_runs.specs.Below.{has}
use Rattle.lk_task_runs.specs.Orders.{touches}
use Rattle.lk_task_runs.specs.Runs.{slot, values, put, blank, given_of}
use Rattle.lk_task_runs.specs.declared.tasks.Needs.{Needs}
use Rattle.lk_task_runs.proofs.NumbersBelow.{has_head, has_tail, get_or-map_any}

pub length-put : {S : Type 0} (ns : List ℕ) (xs : List S) (s : List (Option S)) → length (put ns xs s) ≡ length s
length-put [] xs s = refl
length-put (n ∷ ns) [] s = refl
length-put (n ∷ ns) (x ∷ xs) s = length-put ns xs (set s n (Some x)) ∙ length-set s n (Some x)

pub length-blank : {S : Type 0} (ns : List ℕ) (s : List (Option S)) → length (blank ns s) ≡ length s
length-blank [] s = refl
length-blank (n ∷ ns) s = length-blank ns (set s n None) ∙ length-set s n None

-- other slots stay
pub slot-put_other : {S : Type 0} (ns : List ℕ) (xs : List S) (s : List (Option S)) (n : ℕ) → has n ns ≡ false → slot (put ns xs s) n ≡ slot s n
slot-put_other [] xs s n h = refl
slot-put_other (m ∷ ns) [] s n h = refl
slot-put_other (m ∷ ns) (x ∷ xs) s n h =
    let parts = or_parts (m == n) (has n ns) h in
    slot-put_other ns xs (set s m (Some x)) n parts.1 ∙ get_or-set_other s m n (Some x) None (λ e. eqb-false m n parts.0 (sym e))

pub slot-blank_other : {S : Type 0} (ns : List ℕ) (s : List (Option S)) (n : ℕ) → has n ns ≡ false → slot (blank ns s) n ≡ slot s n
slot-blank_other [] s n h = refl
slot-blank_other (m ∷ ns) s n h =
    let parts = or_parts (m == n) (has n ns) h in
    slot-blank_other ns (set s m None) n parts.1 ∙ get_or-set_other s m n None None (λ e. eqb-false m n parts.0 (sym e))

set_same_any : {S : Type 0} (s r : List (Option S)) (n : ℕ) (v : Option S) → length s ≡ length r → slot (set s n v) n ≡ slot (set r n v) n
set_same_any s r n v e =
    elim (cases_lt n (length s)) [
      | inl l ↦ get_or-set_same s n v None l ∙ sym (get_or-set_same r n v None (omega (arith, e, l)))
      | inr g ↦ get_or_past (set s n v) n None (omega (arith, g, length-set s n v)) ∙ sym (get_or_past (set r n v) n None (omega (arith, e, g, length-set r n v)))
    ]

-- what is put overwrites what was there
pub slot-put_same : {S : Type 0} (ns : List ℕ) (xs : List S) (s r : List (Option S)) (n : ℕ) → length s ≡ length r → length ns ≤ length xs → has n ns ≡ true → slot (put ns xs s) n ≡ slot (put ns xs r) n
slot-put_same [] xs s r n e l h = absurd (false≢true h)
slot-put_same (m ∷ ns) [] s r n e l h = absurd (omega arith)
slot-put_same {S} (m ∷ ns) (x ∷ xs) s r n e l h = go (has n ns) refl h (slot-put_same ns xs (set s m (Some x)) (set r m (Some x)) n (length-set s m (Some x) ∙ e ∙ sym (length-set r m (Some x))) (omega arith))
  where
    go : (b : Bool) → has n ns ≡ b → (m == n || b) ≡ true → (has n ns ≡ true → slot (put ns xs (set s m (Some x))) n ≡ slot (put ns xs (set r m (Some x))) n) → slot (put ns xs (set s m (Some x))) n ≡ slot (put ns xs (set r m (Some x))) n
    go true w k later = later w
    go false w k later =
        let same : m ≡ n = eqb-true m n (elim (cases_Bool (m == n)) [ inl t ↦ t | inr f ↦ absurd (false≢true (sym (ap (λ (b : Bool). b || false) f) ∙ k)) ]) in
        let here : slot (set s m (Some x)) n ≡ slot (set r m (Some x)) n = subst (λ (j : ℕ). slot (set s m (Some x)) j ≡ slot (set r m (Some x)) j) same (set_same_any s r m (Some x) e) in
        slot-put_other ns xs (set s m (Some x)) n w ∙ here ∙ sym (slot-put_other ns xs (set r m (Some x)) n w)

-- the values of slots depend on these slots alone
pub values-same : {S : Type 0} (ns : List ℕ) (s r : List (Option S)) → ((n : ℕ) → has n ns ≡ true → slot s n ≡ slot r n) → values s ns ≡ values r ns
values-same [] s r h = refl
values-same {S} (n ∷ ns) s r h =
    ap (λ (o : Option S). cons_option o (values s ns)) (h n (has_head n ns)) ∙ ap (λ (vs : List S). cons_option (slot r n) vs) (values-same ns s r (λ m e. h m (has_tail m n ns e)))

-- a put and a write elsewhere may change places
put-set : {S : Type 0} (ns : List ℕ) (xs : List S) (s : List (Option S)) (n : ℕ) (v : Option S) → has n ns ≡ false → put ns xs (set s n v) ≡ set (put ns xs s) n v
put-set [] xs s n v h = refl
put-set (m ∷ ns) [] s n v h = refl
put-set {S} (m ∷ ns) (x ∷ xs) s n v h =
    let parts = or_parts (m == n) (has n ns) h in
    ap (λ (r : List (Option S)). put ns xs r) (set_comm s n m v (Some x) (λ e. eqb-false m n parts.0 (sym e))) ∙ put-set ns xs (set s m (Some x)) n v parts.1

-- puts into slots apart may change places
pub put_comm : {S : Type 0} (vs : List ℕ) (ys : List S) (ns : List ℕ) (xs : List S) (s : List (Option S)) → ((n : ℕ) → has n vs ≡ true → has n ns ≡ false) → put ns xs (put vs ys s) ≡ put vs ys (put ns xs s)
put_comm [] ys ns xs s h = refl
put_comm (v ∷ vs) [] ns xs s h = refl
put_comm {S} (v ∷ vs) (y ∷ ys) ns xs s h =
    put_comm vs ys ns xs (set s v (Some y)) (λ n e. h n (has_tail n v vs e)) ∙ ap (λ (r : List (Option S)). put vs ys r) (put-set ns xs s v (Some y) (h v (has_head v vs)))

option_is : {S : Type 0} (o : Option S) → is_some o ≡ true → (x : S) × (o ≡ Some x)
option_is None e = absurd (false≢true e)
option_is (Some x) e = (x, refl)

-- putting back what is there changes nothing
pub put-values : {S : Type 0} (ns : List ℕ) (s : List (Option S)) → ((n : ℕ) → has n ns ≡ true → is_some (slot s n) ≡ true) → put ns (values s ns) s ≡ s
put-values [] s h = refl
put-values {S} (n ∷ ns) s h = go (slot s n) refl (h n (has_head n ns)) (put-values ns s (λ m e. h m (has_tail m n ns e)))
  where
    go : (o : Option S) → slot s n ≡ o → is_some o ≡ true → put ns (values s ns) s ≡ s → put (n ∷ ns) (cons_option o (values s ns)) s ≡ s
    go None e k later = absurd (false≢true k)
    go (Some x) e k later =
        let same : set s n (Some x) ≡ s = ap (λ (o : Option S). set s n o) (sym e) ∙ set-get_or s n None in
        ap (λ (r : List (Option S)). put ns (values s ns) r) same ∙ later

-- where every slot has a value there are as many values as slots
pub length-values : {S : Type 0} (ns : List ℕ) (s : List (Option S)) → ((n : ℕ) → has n ns ≡ true → is_some (slot s n) ≡ true) → length (values s ns) ≡ length ns
length-values [] s h = refl
length-values {S} (n ∷ ns) s h = go (slot s n) (h n (has_head n ns)) (length-values ns s (λ m e. h m (has_tail m n ns e)))
  where
    go : (o : Option S) → is_some o ≡ true → length (values s ns) ≡ length ns → length (cons_option o (values s ns)) ≡ suc (length ns)
    go None k later = absurd (false≢true k)
    go (Some x) k later = ap suc later

-- what a task is given depends on the slots that it touches alone
pub given-same : {S : Type 0} (a : Needs) (s r : List (Option S)) → ((n : ℕ) → touches a n ≡ true → slot s n ≡ slot r n) → given_of a s ≡ given_of a r
given-same {S} a s r h =
    let reads : values s a.reads ≡ values r a.reads = values-same a.reads s r (λ n e. h n (or_first (has n a.reads) (has n a.writes) e)) in
    let writes : values s a.writes ≡ values r a.writes = values-same a.writes s r (λ n e. h n (or_second (has n a.reads) (has n a.writes) e)) in
    λ i. record { read = reads i; write = writes i }
  where
    or_first : (x y : Bool) → x ≡ true → (x || y) ≡ true
    or_first x y e = ap (λ (b : Bool). b || y) e

    or_second : (x y : Bool) → y ≡ true → (x || y) ≡ true
    or_second true y e = refl
    or_second false y e = e

-- stores that have the same in every slot are equal
pub same_stores : {S : Type 0} (s r : List (Option S)) → length s ≡ length r → ((n : ℕ) → slot s n ≡ slot r n) → s ≡ r
same_stores s r e h = ext_get_or None s r e (λ i l. h i)

-- the kinds of what is in the slots
abbrev pub kinds : {S : Type 0} → (S → Bool) → List (Option S) → List (Option Bool)
kinds k s = map (option_map k) s

pub slot-kinds : {S : Type 0} (k : S → Bool) (s : List (Option S)) (n : ℕ) → slot (kinds k s) n ≡ option_map k (slot s n)
slot-kinds k s n = get_or-map_any (option_map k) s n None

pub is_some-map : {S : Type 0} (k : S → Bool) (o : Option S) → is_some (option_map k o) ≡ is_some o
is_some-map k None = refl
is_some-map k (Some x) = refl

map-cons_option : {S : Type 0} (k : S → Bool) (o : Option S) (xs : List S) → map k (cons_option o xs) ≡ cons_option (option_map k o) (map k xs)
map-cons_option k None xs = refl
map-cons_option k (Some x) xs = refl

pub map-values : {S : Type 0} (k : S → Bool) (s : List (Option S)) (ns : List ℕ) → map k (values s ns) ≡ values (kinds k s) ns
map-values k s [] = refl
map-values k s (n ∷ ns) =
    map-cons_option k (slot s n) (values s ns) ∙ ap (λ (o : Option Bool). cons_option o (map k (values s ns))) (sym (slot-kinds k s n)) ∙ ap (λ (bs : List Bool). cons_option (slot (kinds k s) n) bs) (map-values k s ns)

heads : (o : Option Bool) (b : Bool) (bs cs : List Bool) → is_some o ≡ true → b ∷ bs ≡ cons_option o cs → (o ≡ Some b) × (bs ≡ cs)
heads None b bs cs k e = absurd (false≢true k)
heads (Some c) b bs cs k e = ((cc), (cc))

-- putting in what is of the same kinds keeps the kinds
pub kinds-put : {S : Type 0} (k : S → Bool) (ns : List ℕ) (xs : List S) (s : List (Option S)) → map k xs ≡ values (kinds k s) ns → ((n : ℕ) → has n ns ≡ true → is_some (slot (kinds k s) n) ≡ true) → kinds k (put ns xs s) ≡ kinds k s
kinds-put k [] xs s e there = refl
kinds-put k (n ∷ ns) [] s e there = refl
kinds-put {S} k (n ∷ ns) (x ∷ xs) s e there =
    let parts = heads (slot (kinds k s) n) (k x) (map k xs) (values (kinds k s) ns) (there n (has_head n ns)) e in
    let same : kinds k (set s n (Some x)) ≡ kinds k s = map-set (option_map k) s n (Some x) ∙ ap (λ (o : Option Bool). set (kinds k s) n o) (sym parts.0) ∙ set-get_or (kinds k s) n None in
    kinds-put k ns xs (set s n (Some x)) (parts.1 ∙ ap (λ (r : List (Option Bool)). values r ns) (sym same)) (λ m h. subst (λ (r : List (Option Bool)). is_some (slot r m) ≡ true) (sym same) (there m (has_tail m n ns h))) ∙ same

-- slots that all have a value are a list of values
pub all_present : {S : Type 0} (k : S → Bool) (s : List (Option S)) (ys : List S) → kinds k s ≡ kinds k (map Some ys) → (xs : List S) × (s ≡ map Some xs)
all_present k [] ys e = ([], refl)
all_present k (o ∷ s) [] e = absurd (cc)
all_present {S} k (o ∷ s) (y ∷ ys) e = go o (head_of o (k y) (kinds k s) (kinds k (map Some ys)) e) (all_present k s ys (tail_of o (k y) (kinds k s) (kinds k (map Some ys)) e))
  where
    head_of : (o : Option S) (b : Bool) (bs cs : List (Option Bool)) → option_map k o ∷ bs ≡ Some b ∷ cs → is_some o ≡ true
    head_of None b bs cs e = absurd (cc)
    head_of (Some x) b bs cs e = refl

    tail_of : (o : Option S) (b : Bool) (bs cs : List (Option Bool)) → option_map k o ∷ bs ≡ Some b ∷ cs → bs ≡ cs
    tail_of o b bs cs e = cc

    go : (o : Option S) → is_some o ≡ true → (xs : List S) × (s ≡ map Some xs) → (xs : List S) × (o ∷ s ≡ map Some xs)
    go None h rest = absurd (false≢true h)
    go (Some x) h rest = (x ∷ rest.0, ap (λ (r : List (Option S)). Some x ∷ r) rest.1)
