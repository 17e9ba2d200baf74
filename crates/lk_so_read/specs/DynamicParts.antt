-- The entries of a dynamic section one after another (gABI "Dynamic Section").
use Rattle.std.specs.Prelude.{ℕ, zero, suc, ◌+◌, ◌*◌, ◌/◌, if◌then◌else◌, List, [], ◌∷◌, Option}
use Rattle.std.specs.List.{before_first}
use Rattle.lk_elf.specs.Numbers.{dt_null, dt_soname, dyn_size}
use Rattle.lk_elf.specs.Records.{dyn_at}
use Rattle.lk_elf.specs.declared.dynamic_entry.Dyn.{Dyn}
use Rattle.lk_elf.specs.declared.section_header.Shdr.{Shdr}
use Rattle.lk_model.specs.DynamicEntries.{first_with_tag, has_tag}
use Rattle.lk_model.specs.Elf.{lies_in}

-- how many whole entries a dynamic section has in the file; none where its bytes do not lie in it
abbrev pub entry_count : List ℕ → Shdr → ℕ
entry_count bytes header = if lies_in bytes header.sh_offset header.sh_size then header.sh_size / dyn_size else 0

-- an entry by its number
abbrev pub entry_at : List ℕ → Shdr → ℕ → Dyn
entry_at bytes header k = dyn_at bytes (header.sh_offset + dyn_size * k)

-- so many entries from this one on
abbrev pub entries_from : List ℕ → Shdr → ℕ → ℕ → List Dyn
entries_from bytes header k zero = []
entries_from bytes header k (suc m) = entry_at bytes header k ∷ entries_from bytes header (k + 1) m

-- what the first SONAME of these says before their first NULL
unfoldable pub soname_among : List Dyn → Option ℕ
soname_among entries = first_with_tag dt_soname (before_first (has_tag dt_null) entries)
