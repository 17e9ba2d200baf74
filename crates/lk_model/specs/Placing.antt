-- This project's own: where an update puts the pieces of a link, among those of the earlier image that
-- stay where they are.
use Rattle.std.specs.Prelude.{ℕ, ◌==◌, ◌-◌, ◌&&◌, not, Bool, true, false, List, [], ◌∷◌, ◌++◌, map, take, fold, filter_map, find, Option, Some, None, slice_get}
use Rattle.std.specs.List.{enumerate_from, list_any}
use Rattle.lk_model.specs.BaseMatching.{piece_now}
use Rattle.lk_model.specs.Checks.{is_some_with}
use Rattle.lk_model.specs.FirstFit.{first_fit}
use Rattle.lk_model.specs.FullPlace.{numbered_row, offset_in_sequence, pieces_in, placed_at}
use Rattle.lk_model.specs.Holes.{holes_of}
use Rattle.lk_model.specs.Keys.{same_piece}
use Rattle.lk_model.specs.Lawful.{size_of}
use Rattle.lk_model.specs.Numbered.{is_number_in}
use Rattle.lk_model.specs.SectionKeys.{is_patched, least_of}
use Rattle.lk_model.specs.SlotUpdate.{updated_slots}
use Rattle.lk_model.specs.Views.{KeptPiece, Resolved}
use Rattle.lk_model.specs.declared.layouts.PieceId.{PieceId}
use Rattle.lk_model.specs.declared.layouts.PieceId.TheVariants as piece
use Rattle.lk_model.specs.declared.layouts.PieceRow.{PieceRow}
use Rattle.lk_model.specs.declared.layouts.Placement.{Placement}
use Rattle.lk_model.specs.declared.layouts.SectionRow.{SectionRow}
use Rattle.lk_model.specs.declared.layouts.SlotTable.{SlotTable}
use Rattle.lk_model.specs.declared.records.Records.{Records}

-- ---- the rows

-- a row of the earlier image with the size that it has in this link; its place and its room stay
abbrev pub updated_row : Resolved → Placement → SectionRow → SectionRow
updated_row r before row = record row { size = size_of r before row }

-- the rows of the earlier image with the sizes that they have in this link with these slots
abbrev pub updated_rows : Resolved → Placement → SlotTable → List SectionRow
updated_rows r before slots = map (updated_row r (record before { slots = slots })) before.sections

-- ---- what stays

-- whether a kept piece is this one, as large and as strictly aligned as it was
abbrev pub is_as_before : PieceId → PieceRow → KeptPiece → Bool
is_as_before p row k = same_piece k.piece p && (k.size == row.size) && (k.align == row.align)

-- whether a piece of the earlier image, by this link's numbers, stays: a section of an input that is not
-- redone; a common block or a copy that is still there, of the same size and alignment
abbrev pub is_staying : Resolved → List ℕ → PieceRow → PieceId → Bool
is_staying r redone row p = elim p [
  | piece.Section i s ↦ not (is_number_in redone i)
  | piece.Common n ↦ list_any (is_as_before (piece.Common n) row) r.kept
  | piece.Copy n ↦ list_any (is_as_before (piece.Copy n) row) r.kept
]

-- whether a piece is in a patched section; those of sequences are placed anew
abbrev pub is_in_patched : Placement → PieceRow → Bool
is_in_patched place row = is_some_with (λ (s : SectionRow). is_patched s.key) (slice_get place.sections row.section)

-- a piece of the earlier image where it stays, by this link's numbers
abbrev pub staying_piece : Records → Resolved → List ℕ → PieceRow → Option PieceRow
staying_piece base r redone row = elim (piece_now base r row.piece) [
  | None ↦ None
  | Some p ↦ elim (is_in_patched base.placement row && is_staying r redone row p) [ true ↦ Some (record row { piece = p }) | false ↦ None ]
]

-- the pieces of patched sections that stay
unfoldable pub staying_pieces : Records → Resolved → List ℕ → List PieceRow
staying_pieces base r redone = filter_map (staying_piece base r redone) base.placement.pieces

-- ---- what is placed

-- where the pieces placed so far are, those that stay among them, and the pieces that found no room
pub record Placing : Type 0 where
  pub placed : List PieceRow
  pub unplaced : List KeptPiece

-- the place among the holes that the placed pieces leave
abbrev pub fitted_offset : Placement → ℕ → SectionRow → KeptPiece → Option ℕ
fitted_offset so_far number row k = first_fit (holes_of so_far number) (least_of row.key) k.size k.align

-- the offset of a piece in a patched section: an empty piece asks for no hole, and a terminator is in
-- the reserved bytes
abbrev pub updated_in_patched : Placement → ℕ → SectionRow → KeptPiece → Option ℕ
updated_in_patched so_far number row k = elim k.terminator [
  | true ↦ Some (row.room - 4)
  | false ↦ elim (k.size == 0) [ true ↦ Some 0 | false ↦ fitted_offset so_far number row k ]
]

-- the offset of the n-th kept piece in its output section; none where no hole takes it
abbrev pub updated_offset : Resolved → Placement → ℕ → SectionRow → ℕ → KeptPiece → Option ℕ
updated_offset r so_far number row n k = elim (is_patched row.key) [
  | true ↦ updated_in_patched so_far number row k
  | false ↦ Some (offset_in_sequence row.key (pieces_in row.key r.kept) (pieces_in row.key (take n r.kept)) k)
]

-- the places with one more piece, whose offset in a row may be found
abbrev pub with_place : Placing → KeptPiece → ℕ → SectionRow → Option ℕ → Placing
with_place so_far k number row None = record so_far { unplaced = so_far.unplaced ++ k ∷ [] }
with_place so_far k number row (Some at) = record so_far { placed = so_far.placed ++ placed_at k number row at ∷ [] }

-- a placement in which these pieces are
abbrev pub placement_with : List SectionRow → SlotTable → List PieceRow → Placement
placement_with rows slots pieces = record { sections = rows; pieces = pieces; slots = slots }

-- whether a piece is among the placed ones
abbrev pub has_place : List PieceRow → KeptPiece → Bool
has_place placed k = list_any (λ (row : PieceRow). same_piece row.piece k.piece) placed

-- the places after the n-th kept piece: one that stays has its place, any other takes one in its output
-- section; one whose output section has no row takes none
abbrev pub place_one : Resolved → List SectionRow → SlotTable → Placing → ℕ × KeptPiece → Placing
place_one r rows slots so_far (n, k) = elim (has_place so_far.placed k) [
  | true ↦ so_far
  | false ↦ elim (numbered_row rows k.key) [
    | None ↦ so_far
    | Some (number, row) ↦ with_place so_far k number row (updated_offset r (placement_with rows slots so_far.placed) number row n k)
  ]
]

-- ---- the whole

-- the row of a kept piece among the placed ones
abbrev pub placed_row : List PieceRow → KeptPiece → Option PieceRow
placed_row placed k = find (λ (row : PieceRow). same_piece row.piece k.piece) placed

-- the placement of an update in which these inputs are redone, as far as pieces have a row and a hole;
-- and the pieces that no hole took, in the order in which they were placed
pub record Attempt : Type 0 where
  pub place : Placement
  pub unplaced : List KeptPiece

unfoldable pub attempt_of : Records → List ℕ → Resolved → Attempt
attempt_of base redone r =
    let slots = updated_slots base r in
    let rows = updated_rows r base.placement slots in
    let done = fold (place_one r rows slots) (record { placed = staying_pieces base r redone; unplaced = [] }) (enumerate_from 0 r.kept) in
    record {
      place = placement_with rows slots (filter_map (placed_row done.placed) r.kept);
      unplaced = done.unplaced;
    }
