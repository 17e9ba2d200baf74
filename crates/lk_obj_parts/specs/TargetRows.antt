-- The sections of relocations on each piece (gABI "Relocation", sh_info), and that their fields fit in it.
use Rattle.std.specs.Prelude.{◌≡◌, ℕ, ◌==◌, Bool, not, ◌&&◌, cond, List, [], ◌∷◌, ◌++◌, drop, filter, Some}
use Rattle.std.specs.List.{enumerate_from}
use Rattle.lk_elf.specs.Numbers.{sht_nobits, sht_rela}
use Rattle.lk_elf.specs.declared.section_header.Shdr.{Shdr}
use Rattle.lk_report.specs.declared.faults.InputFault.{InputFault}
use Rattle.lk_model.specs.Elf.{section_at}
use Rattle.lk_model.specs.ObjectChecks.{overlap_checks_after}
use Rattle.lk_model.specs.Objects.{is_piece_in, rela_sections_of}
use Rattle.lk_model.specs.Views.{Elf}
use Rattle.lk_obj_parts.specs.FieldMarks.{RowsFit, sites_of}
use Rattle.lk_obj_parts.specs.RisingFields.{fields_rise}

-- the sections of relocations on a target; none where it is no piece
abbrev pub piece_rows : Elf → ℕ → List (ℕ × Shdr)
piece_rows elf t = cond (is_piece_in elf t) (rela_sections_of elf t) []

-- a section with its number holds relocations on this target, which is a piece
abbrev pub is_row_on : Elf → ℕ → ℕ × Shdr → Bool
is_row_on elf t row = (row.1.sh_type == sht_rela && row.1.sh_info == t) && is_piece_in elf t

-- those of these sections, the first of which has this number, that hold relocations on a target
abbrev pub rows_on : Elf → ℕ → ℕ → List Shdr → List (ℕ × Shdr)
rows_on elf t n headers = filter (is_row_on elf t) (enumerate_from n headers)

-- whether a section is to be marked: where the targets rise, a section whose fields rise is not
abbrev pub is_marked_row : Elf → Bool → ℕ → ℕ × Shdr → Bool
is_marked_row elf rise t row = is_row_on elf t row && not (rise && fields_rise elf.bytes row.1)

-- those of these sections, the first of which has this number, that are to be marked on a target
abbrev pub marked_rows_on : Elf → Bool → ℕ → ℕ → List Shdr → List (ℕ × Shdr)
marked_rows_on elf rise t n headers = filter (is_marked_row elf rise t) (enumerate_from n headers)

-- those of a file
abbrev pub marked_rows : Elf → Bool → ℕ → List (ℕ × Shdr)
marked_rows elf rise t = marked_rows_on elf rise t 1 (drop 1 elf.sections)

-- a list with one section more, where it is on the target
abbrev pub with_row : Bool → List (ℕ × Shdr) → ℕ × Shdr → List (ℕ × Shdr)
with_row on rows row = cond on (rows ++ row ∷ []) rows

-- the bytes that a target has for fields: none where it has no bytes in the file
abbrev pub room_of : Shdr → ℕ
room_of header = cond (header.sh_type == sht_nobits) 0 header.sh_size

-- each field of each piece fits in it
abbrev pub TargetsFit : Elf → Type 0
TargetsFit elf = (t : ℕ) (target : Shdr) → section_at elf t ≡ Some target → RowsFit (room_of target) elf.bytes (piece_rows elf t)

-- the bytes that fields need of a target with these sections of relocations
abbrev pub room_with : Shdr → List (ℕ × Shdr) → ℕ
room_with header [] = 0
room_with header (row ∷ rows) = room_of header

-- the checks of a target with these sections of relocations
abbrev pub list_checks : List ℕ → ℕ × List (ℕ × Shdr) → List (Bool × InputFault)
list_checks bytes row = overlap_checks_after [] (sites_of bytes row.1)
