-- An image as a whole (this project's own; gABI "Object Files"): the headers, the seal, what is in
-- the rooms of the output sections, the tail, and the section headers, which end it.
use Rattle.std.specs.Prelude.{ℕ, ◌+◌, ◌-◌, ◌==◌, Bool, List, [], ◌∷◌, ◌++◌, length, map, filter, if◌then◌else◌, codes, replicate, nat_le, nat_lt, length, fold}
use Rattle.std.specs.List.{flat_map, enumerate_from, zip}
use Rattle.lk_elf.specs.Records.{shdr_bytes}
use Rattle.lk_model.specs.FileHeader.{header_bytes}
use Rattle.lk_model.specs.Holes.{holes_of, hole_bytes}
use Rattle.lk_model.specs.SectionKeys.{same_key, in_file, eh_frame, is_table}
use Rattle.lk_model.specs.LinkedBytes.{linked_bytes}
use Rattle.lk_model.specs.Stretches.{Stretch, laid_out}
use Rattle.lk_model.specs.Tables.{table_of_key}
use Rattle.lk_model.specs.Tail.{Part, PlacedPart, tail_parts, parts_from, headers_offset, section_headers}
use Rattle.lk_model.specs.FullPlace.{tail_start}
use Rattle.lk_model.specs.Views.{Resolved, KeptPiece}
use Rattle.lk_model.specs.declared.layouts.Hole.{Hole}
use Rattle.lk_model.specs.declared.layouts.PieceRow.{PieceRow}
use Rattle.lk_model.specs.declared.layouts.Placement.{Placement}
use Rattle.lk_model.specs.declared.layouts.SectionRow.{SectionRow}

-- the seal, which says that a commit ended: `LKSEAL01`
abbrev pub seal : List ℕ
seal = codes "LKSEAL01"

abbrev pub seal_offset : ℕ
seal_offset = 4088

abbrev pub stretch : ℕ → List ℕ → Stretch
stretch at bytes = record { at = at; bytes = bytes }

-- a piece of a row at its place in the file
abbrev pub piece_stretch : Resolved → Placement → SectionRow → KeptPiece × PieceRow → Stretch
piece_stretch r place row (kept, p) = stretch (row.offset + (p.addr - row.addr)) (linked_bytes r place kept)

abbrev pub is_in_row : ℕ → KeptPiece × PieceRow → Bool
is_in_row n (kept, p) = p.section == n

-- a hole of a row with its fill
abbrev pub hole_stretch : SectionRow → Hole → Stretch
hole_stretch row h = stretch (row.offset + h.start) (hole_bytes row h)

-- the table of a row that is one
abbrev pub table_stretches : Resolved → Placement → SectionRow → List Stretch
table_stretches r place row = if is_table row.key then stretch row.offset (table_of_key r place row.key) ∷ [] else []

-- the four zeros that end `.eh_frame`
abbrev pub end_stretches : SectionRow → List Stretch
end_stretches row =
    if same_key row.key eh_frame then stretch (row.offset + (row.room - 4)) (replicate 4 0) ∷ [] else []

-- what is in the room of a row: its pieces, its table, its fill; nothing in the file for zeros
abbrev pub row_stretches : Resolved → Placement → ℕ × SectionRow → List Stretch
row_stretches r place (n, row) =
    if in_file row.key.class then
    map (piece_stretch r place row) (filter (is_in_row n) (zip r.kept place.pieces))
    ++ table_stretches r place row ++ map (hole_stretch row) (holes_of place n)
    ++ end_stretches row
    else []

abbrev pub part_stretch : PlacedPart → Stretch
part_stretch p = stretch p.offset p.part.bytes

-- all stretches of the image of a link at a placement, where the tail has these parts
abbrev pub stretches_with : Resolved → Placement → List Part → List Stretch
stretches_with r place parts =
    stretch 0 (header_bytes r place parts) ∷ stretch seal_offset seal
    ∷ flat_map (row_stretches r place) (enumerate_from 0 place.sections)
    ++ map part_stretch (parts_from (tail_start place) parts)
    ++ stretch (headers_offset place parts) (flat_map shdr_bytes (section_headers place parts)) ∷ []

-- all stretches of the image of a link at a placement
unfoldable pub stretches_of : Resolved → Placement → List Stretch
stretches_of r place = stretches_with r place (tail_parts r place)

-- a stretch put before the first that is after it
abbrev pub put_in_order : List Stretch → Stretch → List Stretch
put_in_order [] s = s ∷ []
put_in_order (x ∷ xs) s = if nat_le x.at s.at then x ∷ put_in_order xs s else s ∷ x ∷ xs

-- whether a stretch has a byte
abbrev pub has_bytes : Stretch → Bool
has_bytes s = nat_lt 0 (length s.bytes)

-- a file made of stretches in any order: those that have a byte, by rising place, with zeros between
abbrev pub file_of : List Stretch → List ℕ
file_of stretches = laid_out (fold put_in_order [] (filter has_bytes stretches))

-- the image of a link at a placement
unfoldable pub image_of : Resolved → Placement → List ℕ
image_of r place = file_of (stretches_of r place)
