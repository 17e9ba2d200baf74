-- This project's own: the rows of pieces, section by section and in the order of all.
use Rattle.std.specs.Prelude.{ℕ, ◌+◌, ◌-◌, Bool, cond, ◌&&◌, List, [], ◌∷◌, map, Option, Some, None, option_map, option_and_then, slice_get, slice_index_or, slice_set}
use Rattle.std.specs.List.{cons_option}
use Rattle.lk_model.specs.declared.layouts.PieceRow.{PieceRow}
use Rattle.lk_model.specs.declared.layouts.SectionKey.{SectionKey}
use Rattle.lk_model.specs.declared.layouts.SectionRow.{SectionRow}
use Rattle.lk_model.specs.FullPlace.{numbered_row}
use Rattle.lk_model.specs.Views.{KeptPiece}
use Rattle.lk_layout.specs.declared.row_places.RowPlace.{RowPlace}
use Rattle.lk_layout.specs.Grouping.{Group}
use Rattle.lk_layout.specs.Walked.{Walked}

-- where the pieces of a section go: the number, the address and the room of its row
abbrev pub row_place_after : ℕ × SectionRow → RowPlace
row_place_after entry = record { number = entry.0; addr = entry.1.addr; room = entry.1.room }

-- the same of a key, which is the first row's that has it
abbrev pub row_place_in : List SectionRow → SectionKey → Option RowPlace
row_place_in rows key = option_map row_place_after (numbered_row rows key)

-- the place of a piece in its section, whose offset is this where it is no terminator
abbrev pub place_under : RowPlace → Walked → KeptPiece → ℕ → ℕ
place_under row_place walk piece offset = cond (walk.patched && piece.terminator) (row_place.room - 4) offset

-- the row of a piece at a place
abbrev pub row_under : RowPlace → Walked → KeptPiece → ℕ → PieceRow
row_under row_place walk piece offset = record {
  piece = piece.piece;
  section = row_place.number;
  addr = row_place.addr + place_under row_place walk piece offset;
  size = piece.size;
  align = piece.align;
}

-- the row of the piece with a number among those of a section
abbrev pub row_at : Option RowPlace → Walked → List KeptPiece → ℕ → Option PieceRow
row_at row_place walk pieces n = option_and_then (λ (h : RowPlace). option_and_then (λ (p : KeptPiece). option_map (row_under h walk p) (slice_get walk.offsets n)) (slice_get pieces n)) row_place

-- the row of the piece with a number in the section with a number
abbrev pub row_in : List Group → List Walked → List (Option RowPlace) → ℕ → ℕ → Option PieceRow
row_in groups walks row_places number n =
    option_and_then (λ (g : Group). option_and_then (λ (w : Walked). option_and_then (λ (h : Option RowPlace). row_at h w g.1 n) (slice_get row_places number)) (slice_get walks number)) (slice_get groups number)

-- the rows of pieces in the order of all, where `seen` counts the pieces of each section so far
abbrev pub rows_by : (ℕ → ℕ → Option PieceRow) → List ℕ → List ℕ → List PieceRow
rows_by row seen [] = []
rows_by row seen (number ∷ order) = cons_option (row number (slice_index_or seen number 0)) (rows_by row (slice_set seen number (slice_index_or seen number 0 + 1)) order)

-- where the pieces of a group go
abbrev pub group_row_place : List SectionRow → Group → Option RowPlace
group_row_place rows g = row_place_in rows g.0
