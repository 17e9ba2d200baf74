-- This project's own: which bytes of the file an update may touch, where it is made in place. Offsets
-- are those in the file.
use Rattle.std.specs.Prelude.{ℕ, ◌+◌, ◌-◌, ◌==◌, ◌&&◌, ◌||◌, not, min, nat_lt, nat_le, Bool, true, false, List, [], ◌∷◌, ◌++◌, filter, flat_map, Some, None, slice_get}
use Rattle.std.specs.List.{enumerate_from, list_any}
use Rattle.lk_model.specs.Changes.{sequences_changed}
use Rattle.lk_model.specs.FullPlace.{tail_start}
use Rattle.lk_model.specs.Holes.{holes_of}
use Rattle.lk_model.specs.Keys.{same_piece, piece_row_of}
use Rattle.lk_model.specs.Numbered.{is_number_in}
use Rattle.lk_model.specs.Placing.{staying_pieces}
use Rattle.lk_model.specs.RelocationTypes.{width_of}
use Rattle.lk_model.specs.Rewrites.{rewritten_of}
use Rattle.lk_model.specs.SectionKeys.{same_key, is_table, in_file}
use Rattle.lk_model.specs.Views.{Ref, Resolved}
use Rattle.lk_model.specs.declared.layouts.Hole.{Hole}
use Rattle.lk_model.specs.declared.layouts.PieceId.TheVariants as piece
use Rattle.lk_model.specs.declared.layouts.PieceRow.{PieceRow}
use Rattle.lk_model.specs.declared.layouts.Placement.{Placement}
use Rattle.lk_model.specs.declared.layouts.SectionRow.{SectionRow}
use Rattle.lk_model.specs.declared.layouts.Span.{Span}
use Rattle.lk_model.specs.declared.records.Records.{Records}

-- where the bytes of the headers and the seal end
abbrev pub head_end : ℕ
head_end = 4096

-- so many bytes of a section's room from an offset in it on, as far as the room goes; none of a section
-- that the file does not hold
abbrev pub bytes_in_room : SectionRow → ℕ → ℕ → List Span
bytes_in_room row at n = elim (in_file row.key.class) [
  | true ↦ record { start = row.offset + at; length = min (at + n) row.room - at } ∷ []
  | false ↦ []
]

abbrev pub room_bytes : SectionRow → List Span
room_bytes row = bytes_in_room row 0 row.room

-- bytes of a placed piece
abbrev pub bytes_in_piece : Placement → ℕ → ℕ → PieceRow → List Span
bytes_in_piece place at n placed = elim (slice_get place.sections placed.section) [
  | None ↦ []
  | Some row ↦ bytes_in_room row (placed.addr - row.addr + at) n
]

-- whether a placed piece is one of a redone input, or a common block or a copy that did not stay
abbrev pub is_anew : List ℕ → List PieceRow → PieceRow → Bool
is_anew redone staying placed = elim placed.piece [
  | piece.Section i s ↦ is_number_in redone i
  | piece.Common n ↦ not (list_any (λ (row : PieceRow). same_piece row.piece (piece.Common n)) staying)
  | piece.Copy n ↦ not (list_any (λ (row : PieceRow). same_piece row.piece (piece.Copy n)) staying)
]

-- the pieces that were placed anew
abbrev pub anew_bytes : Records → List ℕ → Resolved → Placement → List Span
anew_bytes base redone r place =
    flat_map (λ (placed : PieceRow). bytes_in_piece place 0 placed.size placed)
    (filter (is_anew redone (staying_pieces base r redone)) place.pieces)

-- the rooms of the sequence sections whose list changed
abbrev pub sequence_bytes : Records → Resolved → Placement → List Span
sequence_bytes base r place =
    let changed = sequences_changed base r in
    flat_map room_bytes (filter (λ (row : SectionRow). list_any (same_key row.key) changed) place.sections)

-- the rooms of the tables
abbrev pub table_rooms : Placement → List Span
table_rooms place = flat_map room_bytes (filter (λ (row : SectionRow). is_table row.key) place.sections)

-- the field of a reference
abbrev pub field_bytes_at : Placement → Ref → List Span
field_bytes_at place x = elim (piece_row_of place (piece.Section x.input x.section)) [
  | None ↦ []
  | Some placed ↦ bytes_in_piece place x.offset (width_of x.code) placed
]

-- the fields of the references whose values changed
abbrev pub rewritten_bytes : Records → List ℕ → Resolved → Placement → List Span
rewritten_bytes base redone r place = flat_map (field_bytes_at place) (rewritten_of base redone r place)

-- the holes that are none of the others
abbrev pub same_hole : Hole → Hole → Bool
same_hole a b = (a.start == b.start) && (a.length == b.length)

abbrev pub holes_but : List Hole → List Hole → List Hole
holes_but holes others = filter (λ (hole : Hole). not (list_any (same_hole hole) others)) holes

-- the holes of a section that one placement has and the other has not
abbrev pub changed_holes : Placement → Placement → ℕ × SectionRow → List Span
changed_holes before place (n, row) =
    let old = holes_of before n in
    let new = holes_of place n in
    flat_map (λ (hole : Hole). bytes_in_room row hole.start hole.length) (holes_but old new ++ holes_but new old)

abbrev pub hole_spans : Records → Placement → List Span
hole_spans base place = flat_map (changed_holes base.placement place) (enumerate_from 0 place.sections)

-- all ranges in rooms that an update may touch, where these inputs are redone
unfoldable pub touched_spans : Records → List ℕ → Resolved → Placement → List Span
touched_spans base redone r place =
    anew_bytes base redone r place
    ++ sequence_bytes base r place
    ++ table_rooms place
    ++ rewritten_bytes base redone r place
    ++ hole_spans base place

-- whether a byte lies in a range
abbrev pub is_in_span : ℕ → Span → Bool
is_in_span k span = nat_le span.start k && nat_lt k (span.start + span.length)

-- whether an update may touch a byte of the file: it is one of the first 4,096, in one of those ranges,
-- or in the tail
unfoldable pub is_touched : Records → List ℕ → Resolved → Placement → ℕ → Bool
is_touched base redone r place k =
    nat_lt k head_end
    || nat_le (tail_start place) k
    || list_any (is_in_span k) (touched_spans base redone r place)
