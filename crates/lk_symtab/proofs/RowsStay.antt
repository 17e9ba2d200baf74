-- Numbers, and the names that the linker makes: a name has a number exactly where it is one of the rows',
-- it keeps it, and only what makes a name changes whether it is made.
use Rattle.std.proofs.Common.{◌≡◌, refl, sym, ap, ◌∙◌, arith, ℕ, zero, suc, ◌+◌, Bool, true, false, cond, not, nat_lt, ◌||◌, List, [], ◌∷◌, ◌++◌, map, length, Option, None, Some, is_some, position, le-ltb, lt-ltb, ltb-false, ltb-true, option_map, slice_get}
use Rattle.std.specs.Cmp.Lexicographic.{nat_list_eq_equiv}
use Rattle.std.specs.List.{list_any, position_or_len}
use Rattle.std.specs.Map.{keys_of}
use Rattle.std.specs.Str.{bytes_eq}
use Rattle.std.proofs.lemmas.Slice.Eq.{bytes_eq-Decides}
use Rattle.std.proofs.lemmas.Map.Made.{is_some-lookup}
use Rattle.indexmap.proofs.MapLemmas.{some_index}
use Rattle.lk_model.specs.declared.summaries.Contribution.{Contribution}
use Rattle.lk_model.specs.declared.summaries.Contributions.{Contributions}
use Rattle.lk_model.specs.Finding.{number_among}
use Rattle.lk_model.specs.Symbols.{contributions_of, contributions_to, is_named, names_in_order}
use Rattle.lk_symtab.specs.NameRows.{NameRow, all_symbols, number_of, row_names, row_with, with_symbol}
use Rattle.lk_symtab.specs.SymbolLaws.{FoundWhereAdded, MakesOne, MakingKeepsSymbols, NumbersStay, NoneWithoutNumber, SymbolsAtNumber, SymbolsMakeNone, makes}
use Rattle.lk_symtab.proofs.SymbolsFound.{names_have, none_named}

-- there is a place exactly where an item passes
twice : {X : Type 0} → (xs : List X) → keys_of (map (λ (x : X). (x, x)) xs) ≡ xs
twice [] = refl
twice (x ∷ xs) = ap (λ l. x ∷ l) (twice xs)

position_any : {X : Type 0} → (p : X → Bool) (xs : List X) → is_some (position p xs) ≡ list_any p xs
position_any {X} p xs =
    let es : List (X × X) = map (λ (x : X). (x, x)) xs in
    ap (λ l. is_some (position p l)) (sym (twice xs)) ∙ some_index p es ∙ is_some-lookup p es ∙ ap (list_any p) (twice xs)

-- a test of the name, of the names in order
any_in_order : (symbols : List Contribution) (name : List ℕ) (ns : List (List ℕ)) → list_any (λ (cs : Contributions). bytes_eq cs.name name) (map (contributions_to symbols) ns) ≡ list_any (bytes_eq name) ns
any_in_order symbols name [] = refl
any_in_order symbols name (n ∷ ns) = λ i. nat_list_eq_equiv.symm n name i || any_in_order symbols name ns i

pub found : FoundWhereAdded
found rows symbols name same =
    ap (λ (css : List Contributions). is_some (number_among css name)) same
    ∙ position_any (λ (cs : Contributions). bytes_eq cs.name name) (contributions_of symbols)
    ∙ any_in_order symbols name (names_in_order symbols)
    ∙ names_have name symbols

-- of the names of rows
any_of_rows : (rows : List NameRow) (name : List ℕ) → list_any (λ (cs : Contributions). bytes_eq cs.name name) (all_symbols rows) ≡ list_any (bytes_eq name) (row_names rows)
any_of_rows [] name = refl
any_of_rows (row ∷ rows) name = λ i. nat_list_eq_equiv.symm row.contributions.name name i || any_of_rows rows name i

made_none : (rows : List NameRow) (name : List ℕ) (c : Contribution) → makes (with_symbol rows name c) ≡ cond (list_any (bytes_eq name) (row_names rows)) (makes rows) (makes rows ++ false ∷ [])
made_none [] name c = refl
made_none (row ∷ rows) name c = by (bytes_eq name row.contributions.name) (list_any (bytes_eq name) (row_names rows)) (made_none rows name c)
  where
    by : (b others : Bool) → makes (with_symbol rows name c) ≡ cond others (makes rows) (makes rows ++ false ∷ []) → makes (cond b (row_with row c ∷ rows) (row ∷ with_symbol rows name c)) ≡ cond (b || others) (row.is_made ∷ makes rows) (row.is_made ∷ makes rows ++ false ∷ [])
    by true others rest = refl
    by false true rest = ap (λ l. row.is_made ∷ l) rest
    by false false rest = ap (λ l. row.is_made ∷ l) rest

pub none_made : SymbolsMakeNone
none_made rows name c =
    made_none rows name c ∙ ap (λ b. cond b (makes rows) (makes rows ++ false ∷ [])) (sym (any_of_rows rows name) ∙ sym (position_any (λ (cs : Contributions). bytes_eq cs.name name) (all_symbols rows)))

pub one_made : MakesOne
one_made [] number = refl
one_made (row ∷ rows) zero = refl
one_made (row ∷ rows) (suc number) = ap (λ l. row.is_made ∷ l) (one_made rows number)

pub kept : MakingKeepsSymbols
kept [] number = refl
kept (row ∷ rows) zero = refl
kept (row ∷ rows) (suc number) = ap (λ l. row.contributions ∷ l) (kept rows number)

-- the place of the first item that passes, item by item
next_place : (place size : ℕ) → cond (nat_lt (1 + place) (suc size)) (Some (1 + place)) None ≡ option_map suc (cond (nat_lt place size) (Some place) None)
next_place place size = by (nat_lt place size) refl
  where
    one : 1 + place ≡ suc place
    one = omega arith

    by : (b : Bool) → nat_lt place size ≡ b → cond (nat_lt (1 + place) (suc size)) (Some (1 + place)) None ≡ option_map suc (cond b (Some place) None)
    by true e =
        let within = ltb-true place size e in
        let more : nat_lt (1 + place) (suc size) ≡ true = lt-ltb (1 + place) (suc size) (omega arith) in
        λ i. cond (more i) (Some (one i)) None
    by false e =
        let past = ltb-false place size e in
        let more : nat_lt (1 + place) (suc size) ≡ false = le-ltb (1 + place) (suc size) (omega arith) in
        λ i. cond (more i) (Some (1 + place)) None

pub position_cons : {X : Type 0} → (p : X → Bool) (x : X) (xs : List X) → position p (x ∷ xs) ≡ cond (p x) (Some 0) (option_map suc (position p xs))
position_cons p x xs = by (p x)
  where
    by : (b : Bool) → cond (nat_lt (cond (not b) (1 + position_or_len p xs) 0) (length (x ∷ xs))) (Some (cond (not b) (1 + position_or_len p xs) 0)) None ≡ cond b (Some 0) (option_map suc (position p xs))
    by true = ap (λ b. cond b (Some 0) None) (lt-ltb 0 (length (x ∷ xs)) (omega arith))
    by false = next_place (position_or_len p xs) (length xs)

later_place : (b : Bool) (was now : Option ℕ) (number : ℕ) → ((m : ℕ) → was ≡ Some m → now ≡ Some m) → cond b (Some 0) (option_map suc was) ≡ Some number → cond b (Some 0) (option_map suc now) ≡ Some number
later_place true was now number stays h = h
later_place false None now number stays h = absurd (cc)
later_place false (Some m) now number stays h = ap (option_map suc) (stays m refl) ∙ h

-- a name has the same place once another symbol was added
pub stays : NumbersStay
stays [] name other c number h = absurd (cc)
stays (row ∷ rows) name other c number h = by (bytes_eq other row.contributions.name) (stays rows name other c)
  where
    test : Contributions → Bool
    test = λ cs. bytes_eq cs.name name

    by : (b : Bool) → ((m : ℕ) → number_of rows name ≡ Some m → number_of (with_symbol rows other c) name ≡ Some m) → number_of (cond b (row_with row c ∷ rows) (row ∷ with_symbol rows other c)) name ≡ Some number
    by true rest = h
    by false rest =
        position_cons test row.contributions (all_symbols (with_symbol rows other c))
        ∙ later_place (test row.contributions) (number_of rows name) (number_of (with_symbol rows other c) name) number rest (sym (position_cons test row.contributions (all_symbols rows)) ∙ h)

-- equal bytes are one name
pub same_bytes : (x y : List ℕ) → bytes_eq x y ≡ true → x ≡ y
same_bytes x y e = (bytes_eq-Decides x y).0 e

-- the row at a name's place has its symbols
number_below : (b : Bool) (next : Option ℕ) (number : ℕ) (css : List Contributions) (cs wanted : Contributions) → (b ≡ true → cs ≡ wanted) → ((m : ℕ) → next ≡ Some m → slice_get css m ≡ Some wanted) → cond b (Some 0) (option_map suc next) ≡ Some number → slice_get (cs ∷ css) number ≡ Some wanted
number_below true next zero css cs wanted here rest h = ap Some (here refl)
number_below true next (suc n) css cs wanted here rest h = absurd (let bad : 0 ≡ suc n = cc in omega (arith, bad))
number_below false None number css cs wanted here rest h = absurd (cc)
number_below false (Some m) zero css cs wanted here rest h = absurd (let bad : suc m ≡ 0 = cc in omega (arith, bad))
number_below false (Some m) (suc n) css cs wanted here rest h =
    let same : suc m ≡ suc n = cc in
    let so : m ≡ n = omega arith in
    rest n (ap Some so)

row_at_place : (symbols : List Contribution) (name : List ℕ) (ns : List (List ℕ)) (number : ℕ) → number_among (map (contributions_to symbols) ns) name ≡ Some number → slice_get (map (contributions_to symbols) ns) number ≡ Some (contributions_to symbols name)
row_at_place symbols name [] number h = absurd (cc)
row_at_place symbols name (n ∷ ns) number h =
    let css : List Contributions = map (contributions_to symbols) ns in
    number_below (bytes_eq n name) (number_among css name) number css (contributions_to symbols n) (contributions_to symbols name)
    (λ e. ap (contributions_to symbols) (same_bytes n name e))
    (row_at_place symbols name ns)
    (sym (position_cons (λ (cs : Contributions). bytes_eq cs.name name) (contributions_to symbols n) css) ∙ h)

pub at_number : SymbolsAtNumber
at_number rows symbols name number same h =
    ap (λ (css : List Contributions). slice_get css number) same ∙ row_at_place symbols name (names_in_order symbols) number (ap (λ (css : List Contributions). number_among css name) (sym same) ∙ h)

pub without_number : NoneWithoutNumber
without_number rows symbols name same h =
    let none : list_any (is_named name) symbols ≡ false = sym (found rows symbols name same) ∙ ap is_some h in
    ap (λ (l : List Contribution). record { name = name; list = l }) (none_named name symbols none)
