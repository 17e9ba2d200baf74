-- This project's own: where the bytes of a piece are in the file, and a file with the linked bytes of a piece.
use Rattle.std.specs.Prelude.{◌≡◌, ℕ, ◌+◌, ◌-◌, ◌≤◌, nat_le, true, ◌&&◌, cond, List, [], length, Option, Some, None}
use Rattle.std.specs.Bool.{then_some}
use Rattle.std.specs.List.{slice_get}
use Rattle.lk_model.specs.declared.layouts.PieceId.{PieceId}
use Rattle.lk_model.specs.declared.layouts.PieceId.TheVariants as id
use Rattle.lk_model.specs.declared.layouts.PieceRow.{PieceRow}
use Rattle.lk_model.specs.declared.layouts.Placement.{Placement}
use Rattle.lk_model.specs.declared.layouts.SectionRow.{SectionRow}
use Rattle.lk_model.specs.Elf.{elf_of}
use Rattle.lk_model.specs.FullPlace.{tail_start}
use Rattle.lk_model.specs.LinkedBytes.{patch}
use Rattle.lk_model.specs.Objects.{piece_bytes_in, summary_in}
use Rattle.lk_model.specs.SectionKeys.{in_file}
use Rattle.lk_model.specs.Views.{Input, Resolved}
use Rattle.lk_relocate.specs.Fields.{all_filled}
use Rattle.lk_relocate.specs.ObjectsOfInputs.{IsObjectOf, object_in}
use Rattle.lk_relocate.specs.PieceLists.{is_listed}
use Rattle.lk_relocate.specs.References.{section_references}

-- the place in a file of so many bytes at which so many bytes of a piece begin; none where they are more than the
-- piece has, or do not lie in the file
abbrev pub place_with : ℕ → SectionRow → PieceRow → ℕ → Option ℕ
place_with size row p count =
    then_some (nat_le count p.size && (nat_le row.addr p.addr && nat_le (row.offset + (p.addr - row.addr) + count) size)) (row.offset + (p.addr - row.addr))

abbrev pub place_in_row : ℕ → PieceRow → ℕ → Option SectionRow → Option ℕ
place_in_row size p count None = None
place_in_row size p count (Some row) = cond (in_file row.key.class) (place_with size row p count) None

abbrev pub place_in : Placement → ℕ → PieceRow → ℕ → Option ℕ
place_in place size p count = place_in_row size p count (slice_get place.sections p.section)

-- a file with bytes at a place, if they have one
abbrev pub written_at : List ℕ → Option ℕ → List ℕ → List ℕ
written_at image None bytes = image
written_at image (Some at) bytes = patch image at bytes

-- the bytes of a piece with the fields of its references filled; none where its file has more bytes than it, as that
-- of a terminator has
abbrev pub section_filled : Resolved → Placement → ℕ → ℕ → ℕ → Input → List ℕ
section_filled r place size n section x = cond (nat_le (length (piece_bytes_in x.elf section)) size) (all_filled r place (piece_bytes_in x.elf section) (section_references r n section x)) []

abbrev pub piece_filled : Resolved → Placement → ℕ → PieceId → List ℕ
piece_filled r place size (id.Section n section) = elim (slice_get r.inputs n) [ None ↦ [] | Some x ↦ section_filled r place size n section x ]
piece_filled r place size (id.Common name) = []
piece_filled r place size (id.Copy name) = []

-- a file with the bytes of a piece, if the file has the output section of the piece
abbrev pub put_in_row : Resolved → Placement → List ℕ → PieceRow → Option SectionRow → List ℕ
put_in_row r place image p None = image
put_in_row r place image p (Some row) = cond (in_file row.key.class) (patch image (row.offset + (p.addr - row.addr)) (piece_filled r place p.size p.piece)) image

abbrev pub with_piece : Resolved → Placement → List ℕ → PieceRow → List ℕ
with_piece r place image p = put_in_row r place image p (slice_get place.sections p.section)

-- a piece lies in a row, and before the tail if the file has the row
abbrev pub LiesInRow : Placement → PieceRow → Option SectionRow → Type 0
LiesInRow place p None = Unit {0}
LiesInRow place p (Some row) = in_file row.key.class ≡ true → (row.addr ≤ p.addr) × (row.offset + (p.addr - row.addr) + p.size ≤ tail_start place)

-- a piece that is a section of an input: the object is that of the input, and the section is one of its pieces
pub record KnownSection (objects : List (Option (List ℕ))) (r : Resolved) (n section : ℕ) : Type 0 where
  pub bytes : List ℕ
  pub in_object : object_in objects n ≡ Some bytes
  pub object : IsObjectOf r.inputs n bytes
  pub listed : is_listed section (summary_in (elf_of bytes)).pieces ≡ true

abbrev pub KnownId : List (Option (List ℕ)) → Resolved → PieceId → Type 0
KnownId objects r (id.Section n section) = KnownSection objects r n section
KnownId objects r (id.Common name) = Unit {0}
KnownId objects r (id.Copy name) = Unit {0}

-- a placed piece of a link
pub record KnownPiece (objects : List (Option (List ℕ))) (r : Resolved) (place : Placement) (p : PieceRow) : Type 0 where
  pub known : KnownId objects r p.piece
  pub lies : LiesInRow place p (slice_get place.sections p.section)
