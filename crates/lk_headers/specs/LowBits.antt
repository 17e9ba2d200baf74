-- A field of a record has the low bits of a number that is greater than it (gABI "Data
-- Representation"): the record with the low bits of its numbers.
use Rattle.std.specs.Prelude.{ℕ, ◌%◌, ◌^◌}
use Rattle.lk_elf.specs.declared.file_header.Ehdr.{Ehdr}
use Rattle.lk_elf.specs.declared.program_header.Phdr.{Phdr}
use Rattle.lk_elf.specs.declared.section_header.Shdr.{Shdr}

abbrev pub low_64 : ℕ → ℕ
low_64 n = n % 2 ^ 64

-- a program header with the low bits of its offset, address and sizes
abbrev pub low_header : Phdr → Phdr
low_header h = record h {
  p_offset = low_64 h.p_offset;
  p_vaddr = low_64 h.p_vaddr;
  p_paddr = low_64 h.p_paddr;
  p_filesz = low_64 h.p_filesz;
  p_memsz = low_64 h.p_memsz;
}

-- a file header with the low bits of the offset of the section headers and of the counts of sections
abbrev pub low_file_header : Ehdr → Ehdr
low_file_header h = record h {
  e_shoff = low_64 h.e_shoff;
  e_shnum = h.e_shnum % 2 ^ 16;
  e_shstrndx = h.e_shstrndx % 2 ^ 16;
}

-- a section header with the low bits of its name's offset and of its link
abbrev pub low_section_header : Shdr → Shdr
low_section_header h = record h { sh_name = h.sh_name % 2 ^ 32; sh_link = h.sh_link % 2 ^ 32 }
