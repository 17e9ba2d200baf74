-- Among all symbols, a symbol whose input and number only symbols of one name have has the number of that name.
use Rattle.std.proofs.Common.{◌≡◌, refl, sym, ap, ◌∙◌, ℕ, suc, Bool, true, false, cond, ◌||◌, ◌&&◌, List, [], ◌∷◌, map, filter, Some, option_map}
use Rattle.std.specs.Cmp.Lexicographic.{nat_list_eq_equiv}
use Rattle.std.specs.List.{list_any, AllByRecursion}
use Rattle.std.specs.Str.{bytes_eq}
use Rattle.lk_model.specs.declared.summaries.Contribution.{Contribution}
use Rattle.lk_model.specs.declared.summaries.Contributions.{Contributions}
use Rattle.lk_model.specs.Symbols.{contributions_of, contributions_to, is_named, names_in_order}
use Rattle.lk_symtab.specs.NamesOfSymbols.{has_symbol, is_symbol}
use Rattle.lk_symtab.specs.SymbolLaws.{SymbolsHaveNames}
use Rattle.lk_symtab.proofs.RowsStay.{same_bytes}
use Rattle.lk_symtab.proofs.SymbolsNoted.{first_place, position-first_place}

-- whether a symbol of a name passes: of one name alone
module _ (p : Contribution → Bool) (name nm : List ℕ) where
  any_named : (xs : List Contribution) → AllByRecursion (λ (c : Contribution). p c ≡ true → is_named name c ≡ true) xs → list_any p (filter (is_named nm) xs) ≡ (list_any p xs && bytes_eq nm name)
  any_named [] h = refl
  any_named (x ∷ xs) h = by (is_named nm x) (p x) refl h.0 refl (any_named xs h.1)
    where
      own : is_named nm x ≡ true → is_named name x ≡ true → bytes_eq nm name ≡ true
      own one other = ap (λ n. bytes_eq n name) (sym (same_bytes x.global.name nm one)) ∙ other

      other_name : is_named nm x ≡ false → is_named name x ≡ true → bytes_eq nm name ≡ false
      other_name one other = nat_list_eq_equiv.symm nm name ∙ ap (λ n. bytes_eq n nm) (sym (same_bytes x.global.name name other)) ∙ one

      and_false : (b : Bool) → (b && false) ≡ false
      and_false true = refl
      and_false false = refl

      by : (n b : Bool) → is_named nm x ≡ n → (b ≡ true → is_named name x ≡ true) → p x ≡ b → list_any p (filter (is_named nm) xs) ≡ (list_any p xs && bytes_eq nm name)
          → list_any p (cond n (x ∷ filter (is_named nm) xs) (filter (is_named nm) xs)) ≡ ((b || list_any p xs) && bytes_eq nm name)
      by true true e has is rest = ap (λ b. b || list_any p (filter (is_named nm) xs)) is ∙ sym (own e (has refl))
      by true false e has is rest = ap (λ b. b || list_any p (filter (is_named nm) xs)) is ∙ rest
      by false true e has is rest = rest ∙ ap (λ b. list_any p xs && b) (other_name e (has refl)) ∙ and_false (list_any p xs) ∙ sym (other_name e (has refl))
      by false false e has is rest = rest

-- the first name that has the symbol is the name
symbols_at : (symbols : List Contribution) (i s : ℕ) (name : List ℕ) (ns : List (List ℕ)) → ((nm : List ℕ) → has_symbol i s (contributions_to symbols nm) ≡ bytes_eq nm name)
    → first_place (has_symbol i s) (map (contributions_to symbols) ns) ≡ first_place (λ (cs : Contributions). bytes_eq cs.name name) (map (contributions_to symbols) ns)
symbols_at symbols i s name [] same = refl
symbols_at symbols i s name (nm ∷ ns) same = λ j. cond (same nm j) (Some 0) (option_map suc (symbols_at symbols i s name ns same j))

pub symbols_have_names : SymbolsHaveNames
symbols_have_names symbols i s name there only =
    position-first_place (has_symbol i s) (contributions_of symbols)
    ∙ symbols_at symbols i s name (names_in_order symbols) (λ nm. any_named (is_symbol i s) name nm symbols only ∙ ap (λ b. b && bytes_eq nm name) there)
    ∙ sym (position-first_place (λ (cs : Contributions). bytes_eq cs.name name) (contributions_of symbols))
