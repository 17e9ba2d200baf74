-- A place that is put under a name is one of the name's, and of no other's.
use Rattle.std.proofs.Common.{◌≡◌, refl, sym, ap, ◌∙◌, arith, ℕ, zero, suc, ◌+◌, ◌<◌, ◌≤◌, add-one, nat_eq, Bool, true, false, cond, ◌||◌, ◌&&◌, List, [], ◌∷◌, ◌++◌, length, drop, drop-cons, get_or, Option, None, Some, option_map, position, slice_get, Result, Ok, Err, OnOk}
use Rattle.std.specs.Borrow.{Bor}
use Rattle.std.specs.Cmp.Lexicographic.{nat_list_eq_equiv}
use Rattle.std.specs.List.{list_any}
use Rattle.std.specs.Map.{keys_of, lookup}
use Rattle.std.specs.Option.{unwrap_or}
use Rattle.std.specs.Str.{bytes_eq}
use Rattle.std.proofs.lemmas.List.{drop_all}
use Rattle.std.proofs.lemmas.List.Folds.{list_any-append}
use Rattle.std.proofs.lemmas.Option.{slice_get-map}
use Rattle.std.proofs.lemmas.Slice.Eq.{bytes_eq-Decides}
use Rattle.indexmap.proofs.MapLemmas.{Found-position, Missing-position, insert_entry-first}
use Rattle.lk_model.specs.declared.summaries.Global.{Global}
use Rattle.lk_resolve.specs.declared.definers.Definers.{Definers}
use Rattle.lk_resolve.specs.Definers.{IsNoted, IsPutAt, defines, defines_among, is_definer, places_under, with_places}
use Rattle.lk_resolve.specs.Wanted.{is_home_placed}

reported : (p q : List ℕ) → bytes_eq p q ≡ true → p ≡ q
reported p q h = (bytes_eq-Decides p q).0 h

-- the places under a name once some were put under one
found_here : (b k : Bool) (n v : List ℕ) (rest : Option (List ℕ)) → k ≡ b → unwrap_or (cond b (Some n) rest) [] ≡ cond k n (unwrap_or (cond b (Some v) rest) [])
found_here true k n v rest e = sym (ap (λ c. cond c n v) e)
found_here false k n v rest e = sym (ap (λ c. cond c n (unwrap_or rest [])) e)

found_later : (b k : Bool) (n v : List ℕ) (rest new : Option (List ℕ)) → (b ≡ true → k ≡ false) → unwrap_or new [] ≡ cond k n (unwrap_or rest [])
    → unwrap_or (cond b (Some v) new) [] ≡ cond k n (unwrap_or (cond b (Some v) rest) [])
found_later true k n v rest new apart later = sym (ap (λ c. cond c n v) (apart refl))
found_later false k n v rest new apart later = later

found_last : (k : Bool) (n : List ℕ) → unwrap_or (cond k (Some n) None) [] ≡ cond k n []
found_last true n = refl
found_last false n = refl

inserted : (es : List (Bor (List ℕ) × List ℕ)) (key : Bor (List ℕ)) (n : List ℕ) (other : List ℕ) → places_under (with_places es key n) other ≡ cond (bytes_eq other key.now) n (places_under es other)
inserted [] key n other = found_last (bytes_eq other key.now) n
inserted (e ∷ es) key n other = by (bytes_eq key.now e.0.now) refl (inserted es key n other)
  where
    by : (b : Bool) → bytes_eq key.now e.0.now ≡ b → places_under (with_places es key n) other ≡ cond (bytes_eq other key.now) n (places_under es other)
        → places_under (cond b ((e.0, n) ∷ es) (e ∷ with_places es key n)) other ≡ cond (bytes_eq other key.now) n (places_under (e ∷ es) other)
    by true h later =
        found_here (bytes_eq other e.0.now) (bytes_eq other key.now) n e.1 (lookup (λ (k : Bor (List ℕ)). bytes_eq other k.now) es) (ap (λ p. bytes_eq other p) (reported key.now e.0.now h))
    by false h later =
        found_later (bytes_eq other e.0.now) (bytes_eq other key.now) n e.1 (lookup (λ (k : Bor (List ℕ)). bytes_eq other k.now) es)
        (lookup (λ (k : Bor (List ℕ)). bytes_eq other k.now) (with_places es key n))
        (λ same. ap (λ p. bytes_eq p key.now) (reported other e.0.now same) ∙ nat_list_eq_equiv.symm e.0.now key.now ∙ h) later

or_false : (b : Bool) → (b || false) ≡ b
or_false true = refl
or_false false = refl

-- one more place under a name
one_more : (other name : List ℕ) (before all : List ℕ) (place i : ℕ) (b : Bool) → bytes_eq other name ≡ b → (b ≡ true → all ≡ before) → list_any (nat_eq i) (cond b (before ++ place ∷ []) all) ≡ (list_any (nat_eq i) all || (b && nat_eq i place))
one_more other name before all place i true e same =
    list_any-append (nat_eq i) before (place ∷ []) ∙ (λ j. list_any (nat_eq i) (sym (same refl) j) || or_false (nat_eq i place) j)
one_more other name before all place i false e same = sym (or_false (list_any (nat_eq i) all))

grown : (old new : Definers) (key : Bor (List ℕ)) (place : ℕ) → new.places.entries ≡ with_places old.places.entries key (places_under old.places.entries key.now ++ place ∷ []) → IsNoted old new key.now place
grown old new key place put other i =
    ap (λ es. list_any (nat_eq i) (places_under es other)) put
    ∙ ap (list_any (nat_eq i)) (inserted old.places.entries key (places_under old.places.entries key.now ++ place ∷ []) other)
    ∙ one_more other key.now (places_under old.places.entries key.now) (places_under old.places.entries other) place i (bytes_eq other key.now) refl (λ e. ap (places_under old.places.entries) (reported other key.now e))

-- the first place of a name
pub noted_first : (old new : Definers) (key : Bor (List ℕ)) (place : ℕ) → position (λ (k : Bor (List ℕ)). bytes_eq key.now k.now) (keys_of old.places.entries) ≡ None
    → new.places.entries ≡ with_places old.places.entries key (place ∷ []) → IsNoted old new key.now place
noted_first old new key place none put =
    let missing = Missing-position (λ (k : Bor (List ℕ)). bytes_eq key.now k.now) old.places.entries none in
    let empty : places_under old.places.entries key.now ≡ [] = ap (λ o. unwrap_or o []) missing.value in
    grown old new key place (put ∙ ap (λ l. with_places old.places.entries key (l ++ place ∷ [])) (sym empty))

-- and a further one
entry_at : (es : List (Bor (List ℕ) × List ℕ)) (n : ℕ) → n < length es → (key : Bor (List ℕ)) × (places : List ℕ) × (slice_get es n ≡ Some (key, places))
entry_at [] n within = absurd (omega arith)
entry_at (e ∷ es) zero within = (e.0, e.1, refl)
entry_at (e ∷ es) (suc n) within = entry_at es n (omega arith)

pub noted_again : (old new : Definers) (key : Bor (List ℕ)) (n place : ℕ) → position (λ (k : Bor (List ℕ)). bytes_eq key.now k.now) (keys_of old.places.entries) ≡ Some n
    → IsPutAt old.places.entries new.places.entries n place → IsNoted old new key.now place
noted_again old new key n place at put =
    let es : List (Bor (List ℕ) × List ℕ) = old.places.entries in
    let found = Found-position (λ (k : Bor (List ℕ)). bytes_eq key.now k.now) es n at in
    let entry = entry_at es n found.within in
    let value : lookup (λ (k : Bor (List ℕ)). bytes_eq key.now k.now) es ≡ Some entry.1 = found.value ∙ slice_get-map (λ (e : Bor (List ℕ) × List ℕ). e.1) es n ∙ ap (option_map (λ (e : Bor (List ℕ) × List ℕ). e.1)) entry.2 in
    let same : places_under es key.now ≡ entry.1 = ap (λ o. unwrap_or o []) value in
    grown old new key place
    (put entry.0 entry.1 entry.2
    ∙ sym (insert_entry-first (λ (x y : Bor (List ℕ)). bytes_eq x.now y.now) key (entry.1 ++ place ∷ []) es n found.first)
    ∙ ap (λ l. with_places es key (l ++ place ∷ [])) (sym same))

-- ---- symbol after symbol

-- the symbols from one on
next_defines : (gs : List Global) (k : ℕ) (g : Global) (name : List ℕ) → k < length gs → g ≡ get_or gs k g → defines_among (drop k gs) name ≡ (defines name g || defines_among (drop (k + 1) gs) name)
next_defines gs k g name within is =
    ap (λ l. defines_among l name) (drop-cons gs k g within) ∙ (λ i. defines name (sym is i) || defines_among (drop (sym (add-one k) i) gs) name)

one_defines : (a q r e : Bool) → ((a || (q && e)) || (r && e)) ≡ (a || ((q || r) && e))
one_defines true q r e = refl
one_defines false true r true = refl
one_defines false true true false = refl
one_defines false true false false = refl
one_defines false false r e = refl

-- what is known of a name goes on by one symbol
pub noted_on : (now new : Definers) (gs : List Global) (k : ℕ) (g : Global) (name : List ℕ) (i place : ℕ) (all : Bool) → k < length gs → g ≡ get_or gs k g → is_home_placed g.home ≡ true → IsNoted now new g.name place
    → (is_definer now name i || (defines_among (drop k gs) name && nat_eq i place)) ≡ all → (is_definer new name i || (defines_among (drop (k + 1) gs) name && nat_eq i place)) ≡ all
noted_on now new gs k g name i place all within is placed noted so_far =
    ap (λ b. b || (defines_among (drop (k + 1) gs) name && nat_eq i place)) (noted name i)
    ∙ one_defines (is_definer now name i) (bytes_eq name g.name) (defines_among (drop (k + 1) gs) name) (nat_eq i place)
    ∙ ap (λ b. is_definer now name i || (((b && bytes_eq name g.name) || defines_among (drop (k + 1) gs) name) && nat_eq i place)) (sym placed)
    ∙ ap (λ b. is_definer now name i || (b && nat_eq i place)) (sym (next_defines gs k g name within is))
    ∙ so_far

pub passed_on : (now : Definers) (gs : List Global) (k : ℕ) (g : Global) (name : List ℕ) (i place : ℕ) (all : Bool) → k < length gs → g ≡ get_or gs k g → is_home_placed g.home ≡ false
    → (is_definer now name i || (defines_among (drop k gs) name && nat_eq i place)) ≡ all → (is_definer now name i || (defines_among (drop (k + 1) gs) name && nat_eq i place)) ≡ all
passed_on now gs k g name i place all within is placed so_far =
    ap (λ b. is_definer now name i || (((b && bytes_eq name g.name) || defines_among (drop (k + 1) gs) name) && nat_eq i place)) (sym placed)
    ∙ ap (λ b. is_definer now name i || (b && nat_eq i place)) (sym (next_defines gs k g name within is))
    ∙ so_far

-- past the last symbol nothing is left to be noted
pub all_noted : (now : Definers) (gs : List Global) (k : ℕ) (name : List ℕ) (i place : ℕ) (all : Bool) → length gs ≤ k
    → (is_definer now name i || (defines_among (drop k gs) name && nat_eq i place)) ≡ all → is_definer now name i ≡ all
all_noted now gs k name i place all past so_far =
    sym (or_false (is_definer now name i)) ∙ ap (λ l. is_definer now name i || (defines_among l name && nat_eq i place)) (sym (drop_all k gs past)) ∙ so_far

-- ---- a call's answer

pub on_ok : {X E : Type 0} (r : Result X E) {P Q : Type 0} → (P → Q) → OnOk r P → OnOk r Q
on_ok (Ok x) f h = f h
on_ok (Err e) f h = h
