-- Fields of relocations that rise (gABI "Relocation"): each section of relocations is on a later section than
-- the one before it, and each of its fields begins where the one before it ends, or later.
use Rattle.std.specs.Prelude.{ℕ, zero, suc, ◌+◌, ◌==◌, Bool, true, not, ◌&&◌, ◌||◌, cond, nat_le, List, [], ◌∷◌, drop, Option, Some, None}
use Rattle.std.specs.List.{list_all}
use Rattle.lk_elf.specs.Numbers.{sht_rela}
use Rattle.lk_elf.specs.declared.section_header.Shdr.{Shdr}
use Rattle.lk_obj_parts.specs.FieldMarks.{field_width}
use Rattle.lk_obj_parts.specs.RelocationEntries.{entry_at, entry_count}

-- the fields of so many entries from this one on rise, the first of them from this byte on
abbrev pub entries_rise : List ℕ → Shdr → ℕ → ℕ → ℕ → Bool
entries_rise bytes header least k zero = true
entries_rise bytes header least k (suc m) =
    nat_le least (entry_at bytes header k).r_offset
    && entries_rise bytes header ((entry_at bytes header k).r_offset + field_width (entry_at bytes header k)) (k + 1) m

-- the fields of a section rise
abbrev pub fields_rise : List ℕ → Shdr → Bool
fields_rise bytes header = entries_rise bytes header 0 0 (entry_count bytes header)

-- a section without relocations, or with fields that rise
abbrev pub is_apart : List ℕ → Shdr → Bool
is_apart bytes header = not (header.sh_type == sht_rela) || fields_rise bytes header

-- the least number of the next target after a section; none where its own target is below this number
abbrev pub least_after : ℕ → Shdr → Option ℕ
least_after least header =
    cond (header.sh_type == sht_rela) (cond (nat_le least header.sh_info) (Some (header.sh_info + 1)) None) (Some least)

-- the targets of the sections of relocations among these rise, from this number on
abbrev pub targets_rise : ℕ → List Shdr → Bool
targets_rise least [] = true
targets_rise least (header ∷ headers) =
    cond (header.sh_type == sht_rela)
    (nat_le least header.sh_info && targets_rise (header.sh_info + 1) headers)
    (targets_rise least headers)

-- the targets rise, and the fields of each section of relocations
abbrev pub rows_rise : List ℕ → List Shdr → Bool
rows_rise bytes sections = targets_rise 0 (drop 1 sections) && list_all (is_apart bytes) sections
