-- The numbers that are noted of symbols are those of their names, and are so with one more symbol.
use Rattle.std.proofs.Common.{◌≡◌, ◌≢◌, refl, sym, ap, ◌∙◌, arith, ℕ, zero, suc, ◌+◌, ◌-◌, ◌^◌, ◌<◌, ◌==◌, ◌&&◌, min, Bool, true, false, cond, not, ◌||◌, List, [], ◌∷◌, ◌++◌, length, get_or, set, Option, None, Some, Ok, position, option_map}
use Rattle.std.specs.Cmp.Lexicographic.{nat_list_eq_equiv}
use Rattle.std.specs.List.{position_or_len}
use Rattle.std.specs.Str.{bytes_eq}
use Rattle.std.proofs.lemmas.Bool.Decides.{nat_tests}
use Rattle.std.proofs.lemmas.Grind.{get_or-set_at}
use Rattle.std.proofs.lemmas.List.{get_or-set_other, length-map}
use Rattle.std.proofs.lemmas.List.Folds.{list_any-append}
use Rattle.lk_model.specs.declared.summaries.Contribution.{Contribution}
use Rattle.lk_model.specs.declared.summaries.Contributions.{Contributions}
use Rattle.lk_symtab.specs.NameRows.{NameRow, all_symbols, row_with, symbols_in, with_made, with_symbol, AddGives}
use Rattle.lk_symtab.specs.NamesOfSymbols.{AreNamesOf, has_symbol, is_symbol, name_noted, name_of_symbol, no_name, number_at}
use Rattle.lk_symtab.proofs.NamesNumbered.{number_reported, within}
use Rattle.lk_symtab.proofs.RowsStay.{kept, position_cons}

-- ---- the place of the first item that passes, item by item

abbrev pub first_place : {X : Type 0} → (X → Bool) → List X → Option ℕ
first_place p [] = None
first_place p (x ∷ xs) = cond (p x) (Some 0) (option_map suc (first_place p xs))

pub position-first_place : {X : Type 0} → (p : X → Bool) (xs : List X) → position p xs ≡ first_place p xs
position-first_place p [] = refl
position-first_place p (x ∷ xs) = position_cons p x xs ∙ ap (λ o. cond (p x) (Some 0) (option_map suc o)) (position-first_place p xs)

-- ---- a symbol more

-- the first of a place and of another, where there is one
abbrev lesser : ℕ → Option ℕ → ℕ
lesser q None = q
lesser q (Some p) = min q p

-- the place of the row to which a symbol of this name goes
abbrev place_for : List NameRow → List ℕ → ℕ
place_for rows name = position_or_len (λ (cs : Contributions). bytes_eq cs.name name) (all_symbols rows)

no_lower : (p : ℕ) → Some 0 ≡ Some (min 0 p)
no_lower p = ap Some (let e : 0 ≡ min 0 p = omega arith in e)

-- the symbol goes to the first row
in_first : (has is : Bool) (rest : Option ℕ) → cond (has || (is || false)) (Some 0) (option_map suc rest) ≡ cond is (Some (lesser 0 (cond has (Some 0) (option_map suc rest)))) (cond has (Some 0) (option_map suc rest))
in_first true true rest = no_lower 0
in_first true false rest = refl
in_first false true None = refl
in_first false true (Some p) = no_lower (suc p)
in_first false false rest = refl

-- the symbol goes to a later row
in_later : (has is : Bool) (q : ℕ) (rest : Option ℕ) → cond has (Some 0) (option_map suc (cond is (Some (lesser q rest)) rest)) ≡ cond is (Some (lesser (1 + q) (cond has (Some 0) (option_map suc rest)))) (cond has (Some 0) (option_map suc rest))
in_later true true q rest = ap Some (let e : 0 ≡ min (1 + q) 0 = omega arith in e)
in_later true false q rest = refl
in_later false true q None = ap Some (let e : suc q ≡ 1 + q = omega arith in e)
in_later false true q (Some p) = ap Some (let e : suc (min q p) ≡ min (1 + q) (suc p) = omega arith in e)
in_later false false q rest = refl

module _ (i s : ℕ) (name : List ℕ) (c : Contribution) where
  abbrev first_with : List Contributions → Option ℕ
  first_with css = first_place (has_symbol i s) css

  placed : (rows : List NameRow) → first_with (all_symbols (with_symbol rows name c)) ≡ cond (is_symbol i s c) (Some (lesser (place_for rows name) (first_with (all_symbols rows)))) (first_with (all_symbols rows))
  placed [] = by (is_symbol i s c)
    where
      by : (b : Bool) → cond {A = Option ℕ} (b || false) (Some 0) None ≡ cond {A = Option ℕ} b (Some 0) None
      by true = refl
      by false = refl
  placed (row ∷ rows) =
      by (bytes_eq name row.contributions.name) (placed rows)
      ∙ (λ j. cond (is_symbol i s c) (Some (lesser (cond (not (nat_list_eq_equiv.symm name row.contributions.name j)) (1 + place_for rows name) 0) here)) here)
    where
      here : Option ℕ
      here = cond (has_symbol i s row.contributions) (Some 0) (option_map suc (first_with (all_symbols rows)))

      by : (b : Bool) → first_with (all_symbols (with_symbol rows name c)) ≡ cond (is_symbol i s c) (Some (lesser (place_for rows name) (first_with (all_symbols rows)))) (first_with (all_symbols rows)) → first_with (all_symbols (cond b (row_with row c ∷ rows) (row ∷ with_symbol rows name c))) ≡ cond (is_symbol i s c) (Some (lesser (cond (not b) (1 + place_for rows name) 0) here)) here
      by true rest =
          ap (λ b. cond b (Some 0) (option_map suc (first_with (all_symbols rows)))) (list_any-append (is_symbol i s) row.contributions.list (c ∷ []))
          ∙ in_first (has_symbol i s row.contributions) (is_symbol i s c) (first_with (all_symbols rows))
      by false rest =
          ap (λ o. cond (has_symbol i s row.contributions) (Some 0) (option_map suc o)) rest
          ∙ in_later (has_symbol i s row.contributions) (is_symbol i s c) (place_for rows name) (first_with (all_symbols rows))

-- ---- what is noted

not_none : (n : ℕ) → n < 2 ^ 32 - 1 → (n == no_name) ≡ false
not_none n h = grind (arith, nat_tests)

is_none : (n : ℕ) → (n == no_name) ≡ true → n ≡ 2 ^ 32 - 1
is_none n h = grind (arith, nat_tests)

noted_as : (n : ℕ) → n < 2 ^ 32 - 1 → name_noted n ≡ Some n
noted_as n h = ap (λ b. let o : Option ℕ = cond b None (Some n) in o) (not_none n h)

lesser_noted : (n m : ℕ) → n < 2 ^ 32 - 1 → name_noted (min n m) ≡ Some (lesser n (name_noted m))
lesser_noted n m h = by (m == no_name) refl
  where
    by : (b : Bool) → (m == no_name) ≡ b → name_noted (min n m) ≡ Some (lesser n (cond b None (Some m)))
    by true e =
        let none : m ≡ 2 ^ 32 - 1 = is_none m e in
        let least : min n m ≡ n = omega arith in
        ap name_noted least ∙ noted_as n h
    by false e = noted_as (min n m) (omega arith)

pub none_noted : AreNamesOf [] []
none_noted = λ i s. refl

pub still_noted : (rows : List NameRow) (was now : List (List ℕ)) → AreNamesOf rows was → ((i s : ℕ) → number_at now i s ≡ number_at was i s) → AreNamesOf rows now
still_noted rows was now are same = λ i s. ap name_noted (same i s) ∙ are i s

pub noted_when_made : (rows : List NameRow) (number : ℕ) (numbers : List (List ℕ)) → AreNamesOf rows numbers → AreNamesOf (with_made rows number) numbers
noted_when_made rows number numbers are = λ i s. are i s ∙ ap (λ (css : List Contributions). name_of_symbol css i s) (sym (kept rows number))

pub one_noted : (rows new : List NameRow) (name : List ℕ) (c : Contribution) (number : ℕ) (was now : List (List ℕ)) → AreNamesOf rows was → length rows < 2 ^ 32 - 1
    → ((i s : ℕ) → number_at now i s ≡ cond (c.input == i && c.global.symbol == s) (min number (number_at was i s)) (number_at was i s)) → AddGives rows name c (Ok number) new → AreNamesOf new now
one_noted rows new name c number was now are few noted adds = λ i s.
    ap name_noted (noted i s)
    ∙ by i s (is_symbol i s c)
    ∙ sym (placed i s name c rows)
    ∙ sym (position-first_place (has_symbol i s) (all_symbols (with_symbol rows name c)))
    ∙ ap (λ (rs : List NameRow). name_of_symbol (all_symbols rs) i s) (sym adds.1)
  where
    place : number ≡ place_for rows name
    place = adds.0 ∙ number_reported rows name

    least : number < 2 ^ 32 - 1
    least =
        let le = within (λ (cs : Contributions). bytes_eq cs.name name) (all_symbols rows) in
        let size = length-map rows symbols_in in
        let is = place in
        omega arith

    found : (i s : ℕ) → name_noted (number_at was i s) ≡ first_place (has_symbol i s) (all_symbols rows)
    found i s = are i s ∙ position-first_place (has_symbol i s) (all_symbols rows)

    by : (i s : ℕ) (b : Bool) → name_noted (cond b (min number (number_at was i s)) (number_at was i s)) ≡ cond b (Some (lesser (place_for rows name) (first_place (has_symbol i s) (all_symbols rows)))) (first_place (has_symbol i s) (all_symbols rows))
    by i s true = lesser_noted number (number_at was i s) least ∙ (λ j. Some (lesser (place j) (found i s j)))
    by i s false = found i s

-- ---- the lists of an input

-- a new input without symbols
pub no_symbols : (numbers : List (List ℕ)) (i s : ℕ) → number_at (numbers ++ [] ∷ []) i s ≡ number_at numbers i s
no_symbols numbers i s = ap (λ (l : List ℕ). get_or l s no_name) (past numbers i)
  where
    past : (xs : List (List ℕ)) (i : ℕ) → get_or (xs ++ [] ∷ []) i [] ≡ get_or xs i []
    past [] zero = refl
    past [] (suc i) = refl
    past (x ∷ xs) zero = refl
    past (x ∷ xs) (suc i) = past xs i

-- the list of an input is changed
same_number : (s t : ℕ) → (s == t) ≡ true → t ≡ s
same_number s t e = grind (arith, nat_tests)

other_number : (s t : ℕ) → (s == t) ≡ false → t ≢ s
other_number s t e = grind (arith, nat_tests)

pub list_changed : (numbers : List (List ℕ)) (input : ℕ) (list : List ℕ) (i s : ℕ) → input < length numbers → number_at (set numbers input list) i s ≡ cond (input == i) (get_or list s no_name) (number_at numbers i s)
list_changed numbers input list i s h = by (input == i) refl
  where
    by : (b : Bool) → (input == i) ≡ b → number_at (set numbers input list) i s ≡ cond b (get_or list s no_name) (number_at numbers i s)
    by true e = ap (λ (l : List ℕ). get_or l s no_name) (get_or-set_at numbers input i list [] (same_number input i e) h)
    by false e = ap (λ (l : List ℕ). get_or l s no_name) (get_or-set_other numbers input i list [] (other_number input i e))

-- one entry of the list of an input is changed
pub entry_changed : (numbers : List (List ℕ)) (input symbol number : ℕ) (list : List ℕ) (i s : ℕ) → input < length numbers
    → ((t : ℕ) → get_or list t no_name ≡ cond (symbol == t) (min number (number_at numbers input t)) (number_at numbers input t))
    → number_at (set numbers input list) i s ≡ cond (input == i && symbol == s) (min number (number_at numbers i s)) (number_at numbers i s)
entry_changed numbers input symbol number list i s h entry = list_changed numbers input list i s h ∙ by (input == i) refl
  where
    by : (b : Bool) → (input == i) ≡ b → cond b (get_or list s no_name) (number_at numbers i s) ≡ cond (b && symbol == s) (min number (number_at numbers i s)) (number_at numbers i s)
    by true e = entry s ∙ ap (λ k. cond (symbol == s) (min number (number_at numbers k s)) (number_at numbers k s)) (sym (same_number input i e))
    by false e = refl
