-- This project's own: the tables of one object after another, by which its sections are linked.
use Rattle.std.specs.Prelude.{◌≡◌, ℕ, List, Option, Some}
use Rattle.lk_model.specs.Elf.{elf_of}
use Rattle.lk_model.specs.Objects.{summary_in}
use Rattle.lk_symbol_values.specs.SymbolNumbering.{ValueInputs}
use Rattle.lk_relocate.specs.declared.object_tables.ObjectTables.{ObjectTables}
use Rattle.lk_relocate.specs.ObjectsOfInputs.{object_in}
use Rattle.lk_relocate.specs.PieceLists.{AreMarksOf}
use Rattle.lk_relocate.specs.NumbersOfSymbols.{AreNumbersOf}

-- the tables are those of an object with these bytes, which is the input with this number
pub record AreTablesOf (known : ValueInputs) (n : ℕ) (bytes : List ℕ) (tables : ObjectTables) : Type 0 where
  pub numbers_by_symbol_are : AreNumbersOf known n bytes tables.numbers_by_symbol.items
  pub marks_are : AreMarksOf tables.marks (summary_in (elf_of bytes)).pieces

-- the tables are those of the object of their input, if it has one
abbrev pub AreCurrent : ValueInputs → List (Option (List ℕ)) → ObjectTables → Type 0
AreCurrent known objects tables = (n : ℕ) → tables.input ≡ Some n → (bytes : List ℕ) → object_in objects n ≡ Some bytes → AreTablesOf known n bytes tables
