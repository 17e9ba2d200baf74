-- This project's own: what covers bytes of the rooms of a placement, as ranges in one list, and the holes
-- between ranges that rise.
use Rattle.std.specs.Prelude.{◌≡◌, ℕ, Bool, ◌+◌, ◌-◌, ◌^◌, ◌==◌, ◌&&◌, ◌||◌, nat_lt, min, max, if◌then◌else◌, List, [], ◌∷◌, ◌++◌, Option, Some, None, filter}
use Rattle.std.specs.List.{enumerate_from, flat_map, list_any, slice_get}
use Rattle.std.specs.List.Sorted.{IsSortedBy}
use Rattle.lk_model.specs.Holes.{hole_between}
use Rattle.lk_model.specs.SectionKeys.{is_table, reserved_of}
use Rattle.lk_model.specs.declared.layouts.Hole.{Hole}
use Rattle.lk_model.specs.declared.layouts.PieceRow.{PieceRow}
use Rattle.lk_model.specs.declared.layouts.Placement.{Placement}
use Rattle.lk_model.specs.declared.layouts.SectionRow.{SectionRow}
use Rattle.lk_fill.specs.declared.covering.Covered.{Covered}

-- `size` bytes from `start` on in a row, as far as numbers reach; no range where there are none
abbrev pub covers : ℕ → ℕ → ℕ → List Covered
covers section start size =
    let end = min (start + size) (2 ^ 64 - 1) in
    if nat_lt start end then record { section = section; start = start; end = end } ∷ [] else []

abbrev pub piece_covers_in : Option SectionRow → PieceRow → List Covered
piece_covers_in None piece = []
piece_covers_in (Some row) piece = covers piece.section (piece.addr - row.addr) piece.size

-- what a piece covers of its row
abbrev pub piece_covers : List SectionRow → PieceRow → List Covered
piece_covers rows piece = piece_covers_in (slice_get rows piece.section) piece

-- what covers bytes of a row beside its pieces: the reserved end, and the table
abbrev pub row_covers : ℕ × SectionRow → List Covered
row_covers (n, row) =
    covers n (row.room - reserved_of row.key) (reserved_of row.key)
    ++ (if is_table row.key then covers n 0 row.size else [])

-- all that covers bytes of rooms
abbrev pub all_covers : Placement → List Covered
all_covers place = flat_map (piece_covers place.sections) place.pieces ++ flat_map row_covers (enumerate_from 0 place.sections)

-- whether a range comes before another one: by their rows, and in a row by where they start
abbrev pub comes_before : Covered → Covered → Bool
comes_before a b = nat_lt a.section b.section || (a.section == b.section && nat_lt a.start b.start)

-- the ranges are those of the placement, and rise
pub record IsCovering (place : Placement) (ranges : List Covered) : Type 0 where
  pub same : (test : Covered → Bool) → list_any test ranges ≡ list_any test (all_covers place)
  pub rise : IsSortedBy comes_before ranges

-- whether a range is one of a row's
abbrev pub is_in_row : ℕ → Covered → Bool
is_in_row n range = range.section == n

-- the ranges of a row
abbrev pub ranges_in : ℕ → List Covered → List Covered
ranges_in n ranges = filter (is_in_row n) ranges

-- the holes of a room from a place on, between ranges that rise
abbrev pub gaps_from : ℕ → List Covered → ℕ → List Hole
gaps_from at [] room = hole_between at room
gaps_from at (range ∷ ranges) room = hole_between at (min range.start room) ++ gaps_from (max at range.end) ranges room
