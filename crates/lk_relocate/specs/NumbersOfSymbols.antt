-- The numbers that the symbols of an object give to its relocations, by symbol table index (gABI "Symbol Table";
-- psABI x86-64 "Relocation Types").
use Rattle.std.specs.Prelude.{◌≡◌, ℕ, List, Option, Some, None, slice_get, unwrap_or}
use Rattle.lk_elf.specs.declared.relocation.Rela.{Rela}
use Rattle.lk_model.specs.declared.layouts.Placement.{Placement}
use Rattle.lk_model.specs.Elf.{elf_of}
use Rattle.lk_model.specs.Objects.{summary_in}
use Rattle.lk_model.specs.References.{through_of}
use Rattle.lk_model.specs.Views.{Resolved, Through}
use Rattle.lk_elf.specs.RelocationInfo.{r_type_of}
use Rattle.lk_symbol_values.specs.SymbolNumbering.{ValueInputs, place_at, value_through, symbol_numbers_of}
use Rattle.lk_symbol_values.specs.declared.values.Relocation.{Relocation}
use Rattle.lk_symbol_values.specs.declared.values.SymbolNumbers.{SymbolNumbers}
use Rattle.lk_relocate.specs.ObjectsOfInputs.{IsObjectOf}
use Rattle.lk_relocate.specs.Links.{IsLinkOf}

-- the noted numbers of a symbol, by its index
abbrev pub symbol_numbers_at : List (Option SymbolNumbers) → ℕ → Option SymbolNumbers
symbol_numbers_at numbers_by_symbol symbol = unwrap_or (slice_get numbers_by_symbol symbol) None

-- the numbers are those of the symbol that a reference of an input goes through, and its value is S as it is
pub record AreNumbersThrough (r : Resolved) (place : Placement) (input : ℕ) (through : Through) (w : SymbolNumbers) : Type 0 where
  pub symbol_numbers : w ≡ symbol_numbers_of r place input through
  pub exact : w.value ≡ value_through r place input through

-- the numbers are those of a symbol of the object with these bytes, wherever it is the input with this number of a
-- link
abbrev pub AreNumbersAt : ValueInputs → ℕ → List ℕ → ℕ → SymbolNumbers → Type 0
AreNumbersAt known n bytes symbol w =
    (r : Resolved) → IsLinkOf known r → IsObjectOf r.inputs n bytes → AreNumbersThrough r known.place n (through_of r.names (summary_in (elf_of bytes)) symbol) w

-- all noted numbers are those of the object's symbols
abbrev pub AreNumbersOf : ValueInputs → ℕ → List ℕ → List (Option SymbolNumbers) → Type 0
AreNumbersOf known n bytes numbers_by_symbol = (symbol : ℕ) (w : SymbolNumbers) → symbol_numbers_at numbers_by_symbol symbol ≡ Some w → AreNumbersAt known n bytes symbol w

-- a relocation at its place, in a section with this address
abbrev pub relocation_at : Option ℕ → Rela → Relocation
relocation_at start rela = record { address = place_at start rela.r_offset; code = r_type_of rela; addend = rela.r_addend }
