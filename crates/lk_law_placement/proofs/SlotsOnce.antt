-- The slots and the entries of a full placement are exactly those that are needed, each once.
use Rattle.std.specs.Prelude.{◌≡◌, ℕ, ◌==◌, Bool, true, false, IsTrue, ◌&&◌, List, [], ◌∷◌, Option, Some, count_by, flat_map, map, cond, nat_eq, ◌+◌, refl}
use Rattle.std.specs.Bool.{beq}
use Rattle.std.specs.List.{AllByRecursion, IsDistinct, list_all, list_any}
use Rattle.std.proofs.Common.{sym, ap, ◌∙◌}
use Rattle.std.proofs.lemmas.Bool.{and_from, and_parts, or_left, or_right, eqb-true, eq-eqb, false_from_ne_true, both_ways}
use Rattle.std.proofs.lemmas.List.Folds.{fold-map, list_all-map}
use Rattle.lk_report.specs.declared.causes.OptionRecord.{OptionRecord}
use Rattle.lk_model.specs.Keys.{same_got, same_owner, same_truth, is_slot_of}
use Rattle.lk_model.specs.Adding.{added_inputs}
use Rattle.lk_model.specs.Finding.{Found, found_of}
use Rattle.lk_model.specs.NeedsOf.{got_key_eq, owner_eq, got_needs, plt_needs, loaded_references, needs_of}
use Rattle.lk_model.specs.Lawful.{is_free_or_of, slots_are, entries_are}
use Rattle.lk_model.specs.FullPlace.{full_place}
use Rattle.lk_model.specs.References.{Sited, sited_of}
use Rattle.lk_model.specs.Resolving.{paths_of, resolve}
use Rattle.lk_model.specs.Views.{Input, Resolved}
use Rattle.lk_model.specs.declared.layouts.GotKey.{GotKey}
use Rattle.lk_model.specs.declared.layouts.GotOwner.{GotOwner}
use Rattle.lk_model.specs.declared.layouts.GotOwner.TheVariants as owner
use Rattle.lk_law_placement.proofs.DistinctLists.{all_of_each, counts_once, distinct_has_none}
use Rattle.lk_model.proofs.Rising.{all_map}

-- ---- tests of keys

eq_self : (n : ℕ) → (n == n) ≡ true
eq_self n = eq-eqb n n refl

-- owners that are equal by one test are equal
owner_reports : (a b : GotOwner) → owner_eq a b ≡ true → a ≡ b
owner_reports (owner.Global n) (owner.Global m) same = ap (λ k. owner.Global k) (eqb-true n m same)
owner_reports (owner.Local i s) (owner.Local j t) same =
    let parts = and_parts (i == j) (s == t) same in
    ap (λ k. owner.Local k s) (eqb-true i j parts.0) ∙ ap (owner.Local j) (eqb-true s t parts.1)
owner_reports (owner.Global n) (owner.Local j t) same = absurd (both_ways false refl same)
owner_reports (owner.Local i s) (owner.Global m) same = absurd (both_ways false refl same)

owner_self : (a : GotOwner) → owner_eq a a ≡ true
owner_self (owner.Global n) = eq_self n
owner_self (owner.Local i s) = and_from (i == i) (s == s) (eq_self i) (eq_self s)

-- the two tests of owners agree
owners_alike : (a b : GotOwner) → same_owner a b ≡ owner_eq a b
owners_alike (owner.Global n) (owner.Global m) = refl
owners_alike (owner.Local i s) (owner.Local j t) = refl
owners_alike (owner.Global n) (owner.Local j t) = refl
owners_alike (owner.Local i s) (owner.Global m) = refl

truth_reports : (a b : Bool) → beq a b ≡ true → a ≡ b
truth_reports true true same = refl
truth_reports true false same = sym same
truth_reports false true same = same
truth_reports false false same = refl

truth_self : (a : Bool) → beq a a ≡ true
truth_self true = refl
truth_self false = refl

truths_alike : (a b : Bool) → same_truth a b ≡ beq a b
truths_alike true true = refl
truths_alike true false = refl
truths_alike false true = refl
truths_alike false false = refl

and_turned : (a b : Bool) → (a && b) ≡ (b && a)
and_turned true true = refl
and_turned true false = refl
and_turned false true = refl
and_turned false false = refl

-- the two tests of keys agree
keys_alike : (a b : GotKey) → same_got a b ≡ got_key_eq a b
keys_alike a b =
    ap (λ (t : Bool). t && same_owner a.owner b.owner) (truths_alike a.thread b.thread)
    ∙ ap (λ (o : Bool). beq a.thread b.thread && o) (owners_alike a.owner b.owner)
    ∙ and_turned (beq a.thread b.thread) (owner_eq a.owner b.owner)

abbrev got_key : GotOwner → Bool → GotKey
got_key o t = record { owner = o; thread = t }

-- keys that are equal by a test are equal
key_reports : (a b : GotKey) → got_key_eq a b ≡ true → a ≡ b
key_reports a b same =
    let parts = and_parts (owner_eq a.owner b.owner) (beq a.thread b.thread) same in
    let owners : a.owner ≡ b.owner = owner_reports a.owner b.owner parts.0 in
    let threads : a.thread ≡ b.thread = truth_reports a.thread b.thread parts.1 in
    ap (λ (o : GotOwner). got_key o a.thread) owners ∙ ap (got_key b.owner) threads

key_self : (a : GotKey) → got_key_eq a a ≡ true
key_self a = and_from (owner_eq a.owner a.owner) (beq a.thread a.thread) (owner_self a.owner) (truth_self a.thread)

key_apart : (a b : GotKey) → got_key_eq a b ≡ false → got_key_eq b a ≡ false
key_apart a b apart =
    false_from_ne_true (got_key_eq b a) (λ same. both_ways (got_key_eq a b) apart (rw (key_reports b a same) (key_self a)))

number_apart : (a b : ℕ) → nat_eq a b ≡ false → nat_eq b a ≡ false
number_apart a b apart = false_from_ne_true (nat_eq b a) (λ same. both_ways (nat_eq a b) apart (eq-eqb a b (sym (eqb-true b a same))))

-- ---- slots

-- each key of a list is among them
each_among : {A : Type 0} (test : A → A → Bool) → ((x : A) → test x x ≡ true) → (xs : List A) → AllByRecursion (λ x. list_any (test x) xs ≡ true) xs
each_among test self [] = tt
each_among test self (x ∷ xs) = (
  or_left (test x x) (list_any (test x) xs) (self x),
  all_map (λ y among. or_right (test y x) (list_any (test y) xs) among) xs (each_among test self xs),
)

-- a key has as many slots as it is in the list of keys
slots_counted : (key : GotKey) (keys : List GotKey) → count_by (is_slot_of key) (map Some keys) ≡ count_by (same_got key) keys
slots_counted key keys = fold-map (λ (n : ℕ) (slot : Option GotKey). n + cond (is_slot_of key slot) 1 0) (λ (k : GotKey). Some k) 0 keys

-- keys without repeats have their slots where each has one
slots_where_distinct : (keys : List GotKey) → IsDistinct got_key_eq keys → slots_are keys (map Some keys) ≡ true
slots_where_distinct keys once =
    let self : (key : GotKey) → same_got key key ≡ true = λ (key : GotKey). keys_alike key key ∙ key_self key in
    let apart : (a b : GotKey) → got_key_eq a b ≡ false → (same_got a b ≡ false) × (same_got b a ≡ false) =
    λ (a b : GotKey) (e : got_key_eq a b ≡ false). (keys_alike a b ∙ e, keys_alike b a ∙ key_apart a b e) in
    let counted = counts_once got_key_eq same_got self apart keys once in
    and_from
    (list_all (λ key. count_by (is_slot_of key) (map Some keys) == 1) keys)
    (list_all (is_free_or_of keys) (map Some keys))
    (all_of_each (λ key. count_by (is_slot_of key) (map Some keys) == 1) keys (all_map (λ (key : GotKey) one. eq-eqb (count_by (is_slot_of key) (map Some keys)) 1 (slots_counted key keys ∙ one)) keys counted))
    (list_all-map (is_free_or_of keys) Some keys ∙ all_of_each (λ key. list_any (same_got key) keys) keys (each_among same_got self keys))

-- ---- entries

-- names without repeats have their entries where each has one
entries_where_distinct : (names : List ℕ) → IsDistinct nat_eq names → entries_are names names ≡ true
entries_where_distinct names once =
    let apart : (a b : ℕ) → nat_eq a b ≡ false → ((b == a) ≡ false) × ((a == b) ≡ false) =
    λ (a b : ℕ) (e : nat_eq a b ≡ false). (number_apart a b e, e) in
    let counted = counts_once nat_eq (λ (name entry : ℕ). entry == name) eq_self apart names once in
    and_from
    (list_all (λ name. count_by (λ entry. entry == name) names == 1) names)
    (list_all (λ entry. list_any (λ name. name == entry) names) names)
    (all_of_each (λ name. count_by (λ entry. entry == name) names == 1) names (all_map (λ (name : ℕ) one. eq-eqb (count_by (λ entry. entry == name) names) 1 one) names counted))
    (all_of_each (λ entry. list_any (λ name. name == entry) names) names (each_among (λ (entry name : ℕ). name == entry) eq_self names))

-- ---- a full placement

-- where the needed slots have no repeats, those of a full placement are exactly they
pub slots_of_distinct : (r : Resolved) → IsDistinct got_key_eq r.needs.got → IsTrue (slots_are r.needs.got (full_place r).slots.got)
unfolding full_place
slots_of_distinct r once = slots_where_distinct r.needs.got once

-- so for the entries
pub entries_of_distinct : (r : Resolved) → IsDistinct nat_eq r.needs.plt → IsTrue (entries_are r.needs.plt (full_place r).slots.plt)
unfolding full_place
entries_of_distinct r once = entries_where_distinct r.needs.plt once

-- what references need has no repeats
got_once : (found : Found) (sited : List Sited) → IsDistinct got_key_eq (needs_of found sited).got
unfolding needs_of
got_once found sited = distinct_has_none got_key_eq key_apart (flat_map got_needs (loaded_references sited))

plt_once : (found : Found) (sited : List Sited) → IsDistinct nat_eq (needs_of found sited).plt
unfolding needs_of
plt_once found sited = distinct_has_none nat_eq number_apart (flat_map (plt_needs found) (loaded_references sited))

-- the slots are exactly those that are needed
pub full_slots : (options : OptionRecord) (inputs : List Input) → IsTrue (slots_are (resolve options inputs).needs.got (full_place (resolve options inputs)).slots.got)
unfolding resolve
full_slots options inputs =
    let found : Found = found_of (paths_of inputs) options.entry (added_inputs options.entry inputs) in
    slots_of_distinct (resolve options inputs) (got_once found (sited_of found.names inputs found.sections))

-- so are the entries
pub full_entries : (options : OptionRecord) (inputs : List Input) → IsTrue (entries_are (resolve options inputs).needs.plt (full_place (resolve options inputs)).slots.plt)
unfolding resolve
full_entries options inputs =
    let found : Found = found_of (paths_of inputs) options.entry (added_inputs options.entry inputs) in
    entries_of_distinct (resolve options inputs) (plt_once found (sited_of found.names inputs found.sections))
