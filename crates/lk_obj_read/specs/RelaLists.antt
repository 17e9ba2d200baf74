-- Entries of relocations (gABI "Relocation", Elf64_Rela) where they are: in a file, or copied one after another.
use Rattle.std.specs.Prelude.{◌≡◌, ℕ, ◌+◌, ◌*◌, ◌≤◌, List, drop, length, map, take}
use Rattle.std.specs.List.{range_with_len}
use Rattle.lk_elf.specs.Numbers.{rela_size}
use Rattle.lk_elf.specs.Records.{rela_at}
use Rattle.lk_elf.specs.declared.relocation.Rela.{Rela}
use Rattle.lk_obj_read.specs.declared.rela_lists.Entries.{Entries}
use Rattle.lk_obj_read.specs.declared.rela_lists.Entries.TheVariants.{InFile, Joined}

-- so many entries of 24 bytes in these bytes, from this byte on
abbrev pub relas_at : List ℕ → ℕ → ℕ → List Rela
relas_at bytes start count = map (λ k. rela_at bytes (start + rela_size * k)) (range_with_len 0 count)

-- the relocations of entries, and how many they are
abbrev pub entries_of : Entries → List Rela
entries_of (InFile file start count) = relas_at file start count
entries_of (Joined bytes count) = relas_at bytes.items 0 count

abbrev pub count_of : Entries → ℕ
count_of (InFile file start count) = count
count_of (Joined bytes count) = count

-- the bytes of entries by themselves
abbrev pub packed : Entries → List ℕ
packed (InFile file start count) = take (24 * count) (drop start file)
packed (Joined bytes count) = bytes.items

-- the bytes of entries are all there; a copy has no others
abbrev pub AreThere : Entries → Type 0
AreThere (InFile file start count) = start + 24 * count ≤ length file
AreThere (Joined bytes count) = length bytes.items ≡ 24 * count
