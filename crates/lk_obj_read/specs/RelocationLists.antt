-- The relocations of the sections of an object (gABI "Relocation", sh_info) by their bytes alone: the entries
-- of each section of relocations, and those of a target in several sections.
use Rattle.std.specs.Prelude.{ℕ, ◌==◌, Bool, ◌&&◌, cond, List, ◌++◌, filter, flat_map}
use Rattle.lk_elf.specs.Numbers.{sht_rela}
use Rattle.lk_elf.specs.declared.section_header.Shdr.{Shdr}
use Rattle.lk_elf.specs.declared.relocation.Rela.{Rela}
use Rattle.lk_obj_parts.specs.RelocationEntries.{entry_count}
use Rattle.lk_obj_read.specs.RelaLists.{relas_at}

-- the entries of a section of relocations in a file of these bytes
abbrev pub relas_of : List ℕ → Shdr → List Rela
relas_of bytes header = relas_at bytes header.sh_offset (entry_count bytes header)

-- a section that holds relocations on a target
abbrev pub is_on : ℕ → Shdr → Bool
is_on t header = header.sh_type == sht_rela && header.sh_info == t

-- a list of relocations on a target with those of one section more
abbrev pub with_relas : List ℕ → ℕ → List Rela → Shdr → List Rela
with_relas bytes t relas header = cond (is_on t header) (relas ++ relas_of bytes header) relas

-- the relocations on a target in these sections
abbrev pub relas_on : List ℕ → ℕ → List Shdr → List Rela
relas_on bytes t headers = flat_map (relas_of bytes) (filter (is_on t) headers)
