-- What is read of a group (gABI "Section Groups"): its words one by one.
use Rattle.std.specs.Prelude.{ℕ, ◌+◌, ◌*◌, ◌/◌, if◌then◌else◌, List, drop, map}
use Rattle.std.specs.List.{range_with_len}
use Rattle.lk_elf.specs.Fields.{num}
use Rattle.lk_elf.specs.declared.section_header.Shdr.{Shdr}
use Rattle.lk_model.specs.Elf.{lies_in}

-- how many words of four bytes a section has in the file; none where its bytes do not lie in it
abbrev pub word_count_in : List ℕ → Shdr → ℕ
word_count_in bytes header = if lies_in bytes header.sh_offset header.sh_size then header.sh_size / 4 else 0

-- a word of a section, by its place
unfoldable pub word_in : List ℕ → Shdr → ℕ → ℕ
word_in bytes header k = num bytes (header.sh_offset + 4 * k) 4

-- the words of a section of a file of these bytes
unfoldable pub words_in : List ℕ → Shdr → List ℕ
words_in bytes header = map (word_in bytes header) (range_with_len 0 (word_count_in bytes header))

-- the members of a group of a file of these bytes
abbrev pub members_in : List ℕ → Shdr → List ℕ
members_in bytes header = drop 1 (words_in bytes header)
