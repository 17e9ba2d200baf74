-- This project's own: bytes that stretches are written into, one after another, and the stretches that a
-- link writes, group by group.
use Rattle.std.specs.Prelude.{ℕ, ◌-◌, List, [], ◌∷◌, ◌++◌, Option, Some, None, if◌then◌else◌, fold, length, map, replicate}
use Rattle.std.specs.List.{enumerate_from, flat_map, slice_get, zip}
use Rattle.lk_elf.specs.Records.{shdr_bytes}
use Rattle.lk_model.specs.FileHeader.{header_bytes}
use Rattle.lk_model.specs.FullPlace.{tail_start}
use Rattle.lk_model.specs.Holes.{holes_of}
use Rattle.lk_model.specs.Images.{hole_stretch, part_stretch, piece_stretch, seal, seal_offset, stretch, table_stretches}
use Rattle.lk_model.specs.LinkedBytes.{patch}
use Rattle.lk_model.specs.SectionKeys.{in_file}
use Rattle.lk_model.specs.Stretches.{Stretch}
use Rattle.lk_model.specs.Tail.{Part, headers_offset, parts_from, section_headers}
use Rattle.lk_model.specs.Views.{KeptPiece, Resolved}
use Rattle.lk_model.specs.declared.layouts.PieceRow.{PieceRow}
use Rattle.lk_model.specs.declared.layouts.Placement.{Placement}
use Rattle.lk_model.specs.declared.layouts.SectionRow.{SectionRow}

-- bytes with stretches written into them, one after another
abbrev pub written : List ℕ → List Stretch → List ℕ
written image stretches = fold (λ bytes (s : Stretch). patch bytes s.at s.bytes) image stretches

-- the headers with so many zeros after them, and the seal
abbrev pub front_with : ℕ → Resolved → Placement → List Part → List Stretch
front_with zeros r place parts = stretch 0 (header_bytes r place parts ++ replicate zeros 0) ∷ stretch seal_offset seal ∷ []

-- the headers and the seal
abbrev pub front_stretches : Resolved → Placement → List Part → List Stretch
front_stretches r place parts = stretch 0 (header_bytes r place parts) ∷ stretch seal_offset seal ∷ []

-- the headers with zeros up to the seal, and the seal
abbrev pub sealed_stretches : Resolved → Placement → List Part → List Stretch
sealed_stretches r place parts = front_with (seal_offset - length (header_bytes r place parts)) r place parts

-- a kept piece in its row, where the file holds that
abbrev pub stretch_in : Resolved → Placement → KeptPiece × PieceRow → Option SectionRow → List Stretch
stretch_in r place z None = []
stretch_in r place z (Some row) = if in_file row.key.class then piece_stretch r place row z ∷ [] else []

abbrev pub placed_stretch : Resolved → Placement → KeptPiece × PieceRow → List Stretch
placed_stretch r place (kept, p) = stretch_in r place (kept, p) (slice_get place.sections p.section)

-- the linked bytes of the kept pieces that the file holds, in their order
abbrev pub piece_stretches : Resolved → Placement → List Stretch
piece_stretches r place = flat_map (placed_stretch r place) (zip r.kept place.pieces)

-- the fill of the holes of a row, where the file holds it
abbrev pub row_fill : Placement → ℕ × SectionRow → List Stretch
row_fill place (n, row) = if in_file row.key.class then map (hole_stretch row) (holes_of place n) else []

-- the fill of all holes, row by row
abbrev pub fill_stretches : Placement → List Stretch
fill_stretches place = flat_map (row_fill place) (enumerate_from 0 place.sections)

-- the tables that the file holds, row by row
abbrev pub row_table : Resolved → Placement → SectionRow → List Stretch
row_table r place row = if in_file row.key.class then table_stretches r place row else []

abbrev pub table_stretches_of : Resolved → Placement → List Stretch
table_stretches_of r place = flat_map (row_table r place) place.sections

-- the parts of the tail, and the section headers
abbrev pub tail_stretches : Placement → List Part → List Stretch
tail_stretches place parts =
    map part_stretch (parts_from (tail_start place) parts)
    ++ stretch (headers_offset place parts) (flat_map shdr_bytes (section_headers place parts)) ∷ []
