-- The entries of a section of relocations among the bytes of a file (gABI "Relocation"), each with its
-- number.
use Rattle.std.specs.Prelude.{ℕ, zero, suc, ◌+◌, ◌*◌, ◌/◌, if◌then◌else◌, List, [], ◌∷◌}
use Rattle.lk_elf.specs.Numbers.{rela_size}
use Rattle.lk_elf.specs.Records.{rela_at}
use Rattle.lk_elf.specs.declared.relocation.Rela.{Rela}
use Rattle.lk_elf.specs.declared.section_header.Shdr.{Shdr}
use Rattle.lk_model.specs.Elf.{lies_in}

-- how many entries of 24 bytes a section has in the file; none where its bytes do not lie in it
abbrev pub entry_count : List ℕ → Shdr → ℕ
entry_count bytes header = if lies_in bytes header.sh_offset header.sh_size then header.sh_size / rela_size else 0

-- an entry by its number
abbrev pub entry_at : List ℕ → Shdr → ℕ → Rela
entry_at bytes header k = rela_at bytes (header.sh_offset + rela_size * k)

-- so many entries from this one on, with their numbers
abbrev pub entries_from : List ℕ → Shdr → ℕ → ℕ → List (ℕ × Rela)
entries_from bytes header k zero = []
entries_from bytes header k (suc m) = (k, entry_at bytes header k) ∷ entries_from bytes header (k + 1) m
