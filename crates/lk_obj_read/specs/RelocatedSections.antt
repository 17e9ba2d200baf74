-- Which sections of an object have relocations (gABI "Relocation", sh_info), by marks, one for each section.
use Rattle.std.specs.Prelude.{ℕ, ◌==◌, ◌/◌, ◌&&◌, Bool, not, if◌then◌else◌, List, fold, length}
use Rattle.lk_elf.specs.Numbers.{sht_rela, rela_size}
use Rattle.lk_elf.specs.declared.section_header.Shdr.{Shdr}
use Rattle.lk_marks.specs.Marked.{with_mark}
use Rattle.lk_model.specs.Elf.{lies_in}
use Rattle.lk_model.specs.Objects.{relocations_in}
use Rattle.lk_model.specs.Views.{Elf}

-- how many entries of 24 bytes a section has in a file of these bytes
abbrev pub entries_in : List ℕ → Shdr → ℕ
entries_in bytes header = if lies_in bytes header.sh_offset header.sh_size then header.sh_size / rela_size else 0

-- a section of relocations with at least one entry in the file
abbrev pub has_entries : List ℕ → Shdr → Bool
has_entries bytes header = header.sh_type == sht_rela && not (entries_in bytes header == 0)

-- the marks after a section: where it has entries, its target is marked besides
abbrev pub marked_after : List ℕ → List Bool → Shdr → List Bool
marked_after bytes marks header = if has_entries bytes header then with_mark marks header.sh_info else marks

-- the marks after sections
abbrev pub marked_by : List ℕ → List Bool → List Shdr → List Bool
marked_by bytes marks headers = fold (marked_after bytes) marks headers

-- a section, by number, has relocations
abbrev pub is_relocated : Elf → ℕ → Bool
is_relocated elf n = not (length (relocations_in elf n) == 0)
