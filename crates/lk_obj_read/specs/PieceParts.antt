-- The pieces of an object section by section (gABI "Sections"): each by its header, by its name, and by
-- whether it has relocations, which is known of all sections at once.
use Rattle.std.specs.Prelude.{◌≡◌, ℕ, ◌==◌, ◌&&◌, Bool, true, not, if◌then◌else◌, List, [], take, drop, length, bytes_eq, filter_map, Option, option_map, option_and_then}
use Rattle.std.specs.List.{enumerate_from, list_any}
use Rattle.lk_elf.specs.Numbers.{sht_nobits}
use Rattle.lk_elf.specs.declared.section_header.Shdr.{Shdr}
use Rattle.lk_marks.specs.Marked.{marks_of}
use Rattle.lk_model.specs.declared.layouts.SectionKey.{SectionKey}
use Rattle.lk_model.specs.declared.summaries.PieceInfo.{PieceInfo}
use Rattle.lk_model.specs.Elf.{section_name}
use Rattle.lk_model.specs.Objects.{four_zeros, is_frames, piece_named, piece_with}
use Rattle.lk_model.specs.Pieces.{key_of}
use Rattle.lk_model.specs.Views.{Elf}
use Rattle.lk_obj_read.specs.RelocatedSections.{marked_by}

-- the bytes of a section in a file of these bytes; a NOBITS section has none there
abbrev pub stored_bytes : List ℕ → Shdr → List ℕ
stored_bytes bytes header =
    if header.sh_type == sht_nobits then [] else take header.sh_size (drop header.sh_offset bytes)

-- a section that holds exactly four zero bytes in a file of these bytes
abbrev pub is_four_zeros : List ℕ → Shdr → Bool
is_four_zeros bytes header = bytes_eq (stored_bytes bytes header) four_zeros

-- marks that say of each section whether it has relocations, where one of them may be a terminator
abbrev pub MarksServe : List ℕ → List Shdr → List Bool → Type 0
MarksServe bytes headers marks =
    list_any (is_four_zeros bytes) headers ≡ true
    → marks ≡ marked_by bytes (marks_of [] (length headers)) (drop 1 headers)

-- a terminator: frames of exactly four zero bytes, of a section of which it is known whether it has relocations
abbrev pub is_terminator_reported : List ℕ → Bool → Shdr → SectionKey → Bool
is_terminator_reported bytes relocated header key =
    is_frames key && is_four_zeros bytes header && not relocated

-- a section as a piece, by its name and by whether it has relocations
unfoldable pub piece_reported : List ℕ → Bool → ℕ → Shdr → List ℕ → Option PieceInfo
piece_reported bytes relocated n header name =
    option_map (λ (key : SectionKey). piece_with n header name (is_terminator_reported bytes relocated header key) key)
    (key_of name header.sh_type header.sh_flags)

-- a section, by its number, as a piece
abbrev pub piece_at : Elf → ℕ × Shdr → Option PieceInfo
piece_at elf row = option_and_then (piece_named elf row.0 row.1) (section_name elf row.0)

-- the pieces among these sections, the first of which has this number
unfoldable pub pieces_from : Elf → ℕ → List Shdr → List PieceInfo
pieces_from elf n headers = filter_map (piece_at elf) (enumerate_from n headers)
