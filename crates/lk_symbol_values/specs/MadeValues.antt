-- The values of the symbols that the linker makes, by what fields hold of them.
use Rattle.std.specs.Prelude.{◌≡◌, ℕ, ◌+◌, ◌==◌, ◌&&◌, not, nat_eq, Bool, cond, if◌then◌else◌, List, [], ◌∷◌, drop, map, Option, Some, None, codes}
use Rattle.std.specs.List.{list_any, starts_with}
use Rattle.std.specs.Map.{lookup}
use Rattle.std.specs.Str.{bytes_eq}
use Rattle.lk_model.specs.SectionKeys.{same_class}
use Rattle.lk_model.specs.declared.layouts.Class.TheVariants.{N}
use Rattle.lk_model.specs.declared.layouts.PieceRow.{PieceRow}
use Rattle.lk_model.specs.declared.layouts.Placement.{Placement}
use Rattle.lk_model.specs.declared.layouts.SectionRow.{SectionRow}
use Rattle.lk_symbol_values.specs.MadePlaces.{fixed_value, made_places_of}
use Rattle.lk_symbol_values.specs.Sections.{low_64}
use Rattle.lk_symbol_values.specs.declared.made_places.Bound.{Bound}
use Rattle.lk_symbol_values.specs.declared.made_places.MadePlaces.{MadePlaces}

-- whether the section with a number holds one of these pieces
abbrev pub has_piece_at : List PieceRow → ℕ → Bool
has_piece_at pieces n = list_any (λ (p : PieceRow). p.section == n) pieces

-- where a section begins and ends
abbrev pub bound_of_row : SectionRow → Bound
bound_of_row row = record { start = low_64 row.addr; end = low_64 (row.addr + row.size) }

-- whether the row with a number is that of a loaded section that holds a piece
abbrev pub is_bound_row : (ℕ → Bool) → ℕ → SectionRow → Bool
is_bound_row has_piece n row = not (same_class row.key.class N) && has_piece n

-- where the first loaded section of a name begins and ends that holds a piece, where the first has this number
abbrev pub bound_from : (ℕ → Bool) → ℕ → List SectionRow → List ℕ → Option Bound
bound_from has_piece n [] name = None
bound_from has_piece n (row ∷ rows) name = cond (is_bound_row has_piece n row && bytes_eq row.key.name name) (Some (bound_of_row row)) (bound_from has_piece (n + 1) rows name)

abbrev pub bound_in : Placement → List ℕ → Option Bound
bound_in place name = bound_from (has_piece_at place.pieces) 0 place.sections name

-- where the section of a name begins and ends by the entries
abbrev pub bound_of : List (List ℕ × Bound) → List ℕ → Option Bound
bound_of entries name = lookup (bytes_eq name) entries

abbrev pub FindsBounds : (ℕ → Bool) → List (List ℕ × Bound) → List SectionRow → Type 0
FindsBounds has_piece entries rows = (name : List ℕ) → bound_of entries name ≡ bound_from has_piece 0 rows name

abbrev pub start_or_zero : Option Bound → ℕ
start_or_zero None = 0
start_or_zero (Some b) = b.start

abbrev pub end_or_zero : Option Bound → ℕ
end_or_zero None = 0
end_or_zero (Some b) = b.end

-- the value of `__start_X` and `__stop_X`
abbrev pub bound_value_by : (List ℕ → Option Bound) → List ℕ → ℕ
bound_value_by bound name =
    if starts_with nat_eq name (codes "__start_") then start_or_zero (bound (drop 8 name))
    else (if starts_with nat_eq name (codes "__stop_") then end_or_zero (bound (drop 7 name)) else 0)

-- the value of a name that the linker makes
abbrev pub made_in : Placement → List ℕ → ℕ
made_in place name =
    elim (fixed_value (made_places_of place) name) [ Some v ↦ v | None ↦ bound_value_by (bound_in place) name ]

-- the fixed addresses and the bounds are those of the placement
pub record IsMadeOf (places : MadePlaces) (bounds : List (List ℕ × Bound)) (place : Placement) : Type 0 where
  pub places_are : places ≡ made_places_of place
  pub bounds_found : (name : List ℕ) → bound_of bounds name ≡ bound_in place name
