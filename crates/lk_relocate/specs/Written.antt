-- This project's own: a file into which stretches are written one after another, and the stretches of the kept
-- pieces of a link.
use Rattle.std.specs.Prelude.{ℕ, List, [], ◌∷◌, fold, zip, if◌then◌else◌, Option, Some, None}
use Rattle.std.specs.List.{flat_map, slice_get}
use Rattle.lk_model.specs.declared.layouts.PieceRow.{PieceRow}
use Rattle.lk_model.specs.declared.layouts.Placement.{Placement}
use Rattle.lk_model.specs.declared.layouts.SectionRow.{SectionRow}
use Rattle.lk_model.specs.Images.{piece_stretch}
use Rattle.lk_model.specs.LinkedBytes.{patch}
use Rattle.lk_model.specs.SectionKeys.{in_file}
use Rattle.lk_model.specs.Stretches.{Stretch}
use Rattle.lk_model.specs.Views.{KeptPiece, Resolved}

-- a file after stretches are written into it, one after another
abbrev pub written : List ℕ → List Stretch → List ℕ
written image stretches = fold (λ bytes (s : Stretch). patch bytes s.at s.bytes) image stretches

-- a kept piece in its row, if the file has the row
abbrev pub stretch_in : Resolved → Placement → KeptPiece × PieceRow → Option SectionRow → List Stretch
stretch_in r place z None = []
stretch_in r place z (Some row) = if in_file row.key.class then piece_stretch r place row z ∷ [] else []

abbrev pub placed_stretch : Resolved → Placement → KeptPiece × PieceRow → List Stretch
placed_stretch r place (kept, p) = stretch_in r place (kept, p) (slice_get place.sections p.section)

-- the linked bytes of the kept pieces that have bytes in the file, in their order
abbrev pub piece_stretches : Resolved → Placement → List Stretch
piece_stretches r place = flat_map (placed_stretch r place) (zip r.kept place.pieces)
