-- The tables of an object, after another one and for a section.
use Rattle.std.proofs.Common.{◌≡◌, sym, ap, subst, ◌∙◌, ℕ, List, [], Option, Some}
use Rattle.lk_symbol_values.specs.SymbolNumbering.{ValueInputs}
use Rattle.lk_relocate.specs.declared.object_tables.ObjectTables.{ObjectTables}
use Rattle.lk_relocate.specs.ObjectsOfInputs.{object_in}
use Rattle.lk_relocate.specs.ObjectTables.{AreCurrent, AreTablesOf}
use Rattle.lk_relocate.specs.NumbersOfSymbols.{AreNumbersOf}

-- at first no numbers of the symbols of an object are noted
pub none_known : (known : ValueInputs) (n : ℕ) (bytes : List ℕ) → AreNumbersOf known n bytes []
none_known known n bytes = λ symbol w e. absurd (cc)

same_input : (n m : ℕ) → Some n ≡ Some m → n ≡ m
same_input n m e = cc

same_bytes : (xs ys : List ℕ) → Some xs ≡ Some ys → xs ≡ ys
same_bytes xs ys e = cc

module _ (known : ValueInputs) (objects : List (Option (List ℕ))) (n : ℕ) (bytes : List ℕ) (t : ObjectTables) (in_object : Some bytes ≡ object_in objects n) (tables : AreTablesOf known n bytes t) where
  -- an input has one object
  tables_of_input : (other : List ℕ) → object_in objects n ≡ Some other → AreTablesOf known n other t
  tables_of_input other there = subst (λ (xs : List ℕ). AreTablesOf known n xs t) (same_bytes bytes other (in_object ∙ there)) tables

  -- the tables are of one input
  pub tables_current : t.input ≡ Some n → AreCurrent known objects t
  tables_current is = λ m here other there.
      let same : n ≡ m = same_input n m (sym is ∙ here) in
      subst (λ k. AreTablesOf known k other t) same (tables_of_input other (ap (λ k. object_in objects k) same ∙ there))
