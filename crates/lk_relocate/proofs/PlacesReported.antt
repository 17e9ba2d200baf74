-- A section that is copied to its place, with its fields filled, leaves the file with the piece that it is.
use Rattle.std.proofs.Common.{◌≡◌, refl, sym, ap, ◌∙◌, arith, ℕ, ◌+◌, ◌-◌, ◌≤◌, Bool, true, false, cond, nat_le, ◌&&◌, List, [], ◌++◌, drop, length, map, take, Option, None, Some, slice_get}
use Rattle.std.proofs.lemmas.Bool.Decides.{nat_tests}
use Rattle.std.proofs.lemmas.List.{append-nil, take-append-drop}
use Rattle.std.specs.Bool.{then_some}
use Rattle.lk_model.specs.declared.layouts.PieceId.TheVariants as id
use Rattle.lk_model.specs.declared.layouts.PieceRow.{PieceRow}
use Rattle.lk_model.specs.declared.layouts.Placement.{Placement}
use Rattle.lk_model.specs.declared.layouts.SectionRow.{SectionRow}
use Rattle.lk_model.specs.Elf.{elf_of}
use Rattle.lk_model.specs.FullPlace.{tail_start}
use Rattle.lk_model.specs.LinkedBytes.{patch}
use Rattle.lk_model.specs.Objects.{piece_bytes_in, relocations_in, summary_in}
use Rattle.lk_model.specs.References.{reference_of}
use Rattle.lk_model.specs.SectionKeys.{in_file}
use Rattle.lk_model.specs.Views.{Input, Resolved}
use Rattle.lk_relocate.specs.Fields.{all_filled}
use Rattle.lk_relocate.specs.ObjectsOfInputs.{IsObjectOf}
use Rattle.lk_relocate.specs.Places.{LiesInRow, piece_filled, place_in, place_in_row, put_in_row, section_filled, with_piece, written_at}
use Rattle.lk_relocate.specs.References.{piece_references, references_by, section_references}

-- bytes of which none are replaced
pub patch_nothing : (image : List ℕ) (at : ℕ) → patch image at [] ≡ image
patch_nothing image at =
    let same : at + length {A = ℕ} [] ≡ at = omega arith in
    (λ i. append-nil (take at image) i ++ drop (same i) image) ∙ take-append-drop at image

-- what the summary of an object says
pub summary_is : (inputs : List Input) (n : ℕ) (bytes : List ℕ) (o : IsObjectOf inputs n bytes) → o.input.summary ≡ summary_in (elf_of bytes)
summary_is inputs n bytes o = o.summary ∙ ap summary_in o.file

-- the bytes of a section of an object with its fields filled
abbrev pub object_filled : Resolved → Placement → ℕ → List ℕ → ℕ → List ℕ
object_filled r place n bytes section = all_filled r place (piece_bytes_in (elf_of bytes) section) (references_by r n bytes section (relocations_in (elf_of bytes) section))

pub filled_is : (r : Resolved) (place : Placement) (size n section : ℕ) (bytes : List ℕ) → IsObjectOf r.inputs n bytes → piece_filled r place size (id.Section n section) ≡ cond (nat_le (length (piece_bytes_in (elf_of bytes) section)) size) (object_filled r place n bytes section) []
filled_is r place size n section bytes o =
    let file : o.input.elf ≡ elf_of bytes = o.file in
    let summary : o.input.summary ≡ summary_in (elf_of bytes) = summary_is r.inputs n bytes o in
    ap (λ (x : Option Input). elim x [ None ↦ [] | Some y ↦ section_filled r place size n section y ]) o.there
    ∙ (λ i. cond (nat_le (length (piece_bytes_in (file i) section)) size) (all_filled r place (piece_bytes_in (file i) section) (map (reference_of r.names (summary i) n section) (relocations_in (file i) section))) [])

pub references_are : (r : Resolved) (n section : ℕ) (bytes : List ℕ) → IsObjectOf r.inputs n bytes → piece_references r (id.Section n section) ≡ references_by r n bytes section (relocations_in (elf_of bytes) section)
references_are r n section bytes o =
    let file : o.input.elf ≡ elf_of bytes = o.file in
    let summary : o.input.summary ≡ summary_in (elf_of bytes) = summary_is r.inputs n bytes o in
    ap (λ (x : Option Input). elim x [ None ↦ [] | Some y ↦ section_references r n section y ]) o.there
    ∙ (λ i. map (reference_of r.names (summary i) n section) (relocations_in (file i) section))

-- ---- the place

both_hold : (a b c d : ℕ) → a ≤ b → c ≤ d → (nat_le a b && nat_le c d) ≡ true
both_hold a b c d h k = grind (arith, nat_tests)

le_of : (a b : ℕ) → nat_le a b ≡ true → a ≤ b
le_of a b e = grind (arith, nat_tests)

in_place : (image filled : List ℕ) (size count most addr start offset tail : ℕ) (b : Bool) → nat_le count most ≡ b → start ≤ addr → offset + (addr - start) + most ≤ tail → tail ≤ size
    → written_at image (then_some (b && (nat_le start addr && nat_le (offset + (addr - start) + count) size)) (offset + (addr - start))) filled ≡ patch image (offset + (addr - start)) (cond b filled [])
in_place image filled size count most addr start offset tail false e above lies within = sym (patch_nothing image (offset + (addr - start)))
in_place image filled size count most addr start offset tail true e above lies within =
    let few : count ≤ most = le_of count most e in
    ap (λ b. written_at image (then_some b (offset + (addr - start))) filled) (both_hold start addr (offset + (addr - start) + count) size above (omega arith))

put_where : (r : Resolved) (place : Placement) (image : List ℕ) (p : PieceRow) (filled : List ℕ) (size count : ℕ) → piece_filled r place p.size p.piece ≡ cond (nat_le count p.size) filled [] → tail_start place ≤ size → (o : Option SectionRow) → LiesInRow place p o
    → written_at image (place_in_row size p count o) filled ≡ put_in_row r place image p o
put_where r place image p filled size count is within None lies = refl
put_where r place image p filled size count is within (Some row) lies = by (in_file row.key.class) refl
  where
    by : (b : Bool) → in_file row.key.class ≡ b
        → written_at image (cond b (then_some (nat_le count p.size && (nat_le row.addr p.addr && nat_le (row.offset + (p.addr - row.addr) + count) size)) (row.offset + (p.addr - row.addr))) None) filled
        ≡ cond b (patch image (row.offset + (p.addr - row.addr)) (piece_filled r place p.size p.piece)) image
    by false e = refl
    by true e =
        let h = lies e in
        in_place image filled size count p.size p.addr row.addr row.offset (tail_start place) (nat_le count p.size) refl h.0 h.1 within
        ∙ ap (patch image (row.offset + (p.addr - row.addr))) (sym is)

pub piece_put : (r : Resolved) (place : Placement) (image : List ℕ) (p : PieceRow) (n section : ℕ) (bytes : List ℕ) (size : ℕ) → p.piece ≡ id.Section n section → IsObjectOf r.inputs n bytes → LiesInRow place p (slice_get place.sections p.section) → tail_start place ≤ size
    → written_at image (place_in place size p (length (piece_bytes_in (elf_of bytes) section))) (object_filled r place n bytes section) ≡ with_piece r place image p
piece_put r place image p n section bytes size e o lies within =
    put_where r place image p (object_filled r place n bytes section) size (length (piece_bytes_in (elf_of bytes) section)) (ap (piece_filled r place p.size) e ∙ filled_is r place p.size n section bytes o) within (slice_get place.sections p.section) lies
