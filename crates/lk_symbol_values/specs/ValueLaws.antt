-- What the values of relocations have to do with what fields hold of their numbers.
use Rattle.std.specs.Prelude.{◌≡◌, ℕ, ◌+◌, ◌<◌, ◌≤◌, ◌^◌, Some}
use Rattle.lk_model.specs.FullPlace.{memory_of, tail_start}
use Rattle.lk_model.specs.Keys.{piece_row_of}
use Rattle.lk_model.specs.Lawful.{Lawful}
use Rattle.lk_model.specs.SymbolValues.{numbers_of, reference_value, section_address}
use Rattle.lk_model.specs.Values.{value_of}
use Rattle.lk_model.specs.Views.{Ref, Resolved}
use Rattle.lk_model.specs.declared.layouts.Numbers.{Numbers}
use Rattle.lk_model.specs.declared.layouts.PieceId.TheVariants as id
use Rattle.lk_model.specs.declared.layouts.PieceRow.{PieceRow}
use Rattle.lk_model.specs.declared.layouts.Placement.{Placement}
use Rattle.lk_symbol_values.specs.SymbolNumbering.{low_numbers}

-- a relocation has the same value by what fields hold of its numbers
abbrev pub LowNumbersServe : Type 0
LowNumbersServe = (code : ℕ) (n : Numbers) → value_of code (low_numbers n) ≡ value_of code n

-- so the value of a reference is found by what fields hold of its numbers
abbrev pub ReferencesAreServed : Type 0
ReferencesAreServed = (r : Resolved) (place : Placement) (ref : Ref) → reference_value r place ref ≡ value_of ref.code (low_numbers (numbers_of r place ref))

-- a field holds the address of any offset in a section, and at a lawful placement within the limits that address is a
-- sum which does not wrap for offsets in a piece
abbrev pub PlacesAreReported : Type 0
PlacesAreReported = (place : Placement) (input section offset : ℕ) → section_address place input section offset < 2 ^ 64

abbrev pub PlacesAreExact : Type 0
PlacesAreExact = (r : Resolved) (place : Placement) → Lawful r place → memory_of place ≤ 2 ^ 31 → tail_start place < 2 ^ 64
    → (input section offset : ℕ) (row : PieceRow) → piece_row_of place (id.Section input section) ≡ Some row → offset ≤ row.size
    → section_address place input section offset ≡ row.addr + offset
