-- The records of ELF64 (gABI): each is the tuple of its fields, which are in this order without gaps. `ehdr_at bytes at` is the header at `at`, `ehdr_bytes` its bytes, and so on.
use Rattle.std.specs.Prelude.{ℕ, ◌+◌, List, ◌++◌, take, drop}
use Rattle.lk_elf.specs.Fields.{bytes_of, num, signed64, unsigned64}
use Rattle.lk_elf.specs.declared.file_header.Ehdr.{Ehdr}
use Rattle.lk_elf.specs.declared.section_header.Shdr.{Shdr}
use Rattle.lk_elf.specs.declared.program_header.Phdr.{Phdr}
use Rattle.lk_elf.specs.declared.symbol.Sym.{Sym}
use Rattle.lk_elf.specs.declared.relocation.Rela.{Rela}
use Rattle.lk_elf.specs.declared.dynamic_entry.Dyn.{Dyn}

-- the header of a file at `at` (gABI "ELF Header", Elf64_Ehdr)
unfoldable pub ehdr_at : List ℕ → ℕ → Ehdr
ehdr_at bytes at = record {
  e_ident = take 16 (drop at bytes);
  e_type = num bytes (at + 16) 2;
  e_machine = num bytes (at + 18) 2;
  e_version = num bytes (at + 20) 4;
  e_entry = num bytes (at + 24) 8;
  e_phoff = num bytes (at + 32) 8;
  e_shoff = num bytes (at + 40) 8;
  e_flags = num bytes (at + 48) 4;
  e_ehsize = num bytes (at + 52) 2;
  e_phentsize = num bytes (at + 54) 2;
  e_phnum = num bytes (at + 56) 2;
  e_shentsize = num bytes (at + 58) 2;
  e_shnum = num bytes (at + 60) 2;
  e_shstrndx = num bytes (at + 62) 2;
}

-- the bytes of the header of a file
unfoldable pub ehdr_bytes : Ehdr → List ℕ
ehdr_bytes header =
    header.e_ident
    ++ bytes_of 2 header.e_type
    ++ bytes_of 2 header.e_machine
    ++ bytes_of 4 header.e_version
    ++ bytes_of 8 header.e_entry
    ++ bytes_of 8 header.e_phoff
    ++ bytes_of 8 header.e_shoff
    ++ bytes_of 4 header.e_flags
    ++ bytes_of 2 header.e_ehsize
    ++ bytes_of 2 header.e_phentsize
    ++ bytes_of 2 header.e_phnum
    ++ bytes_of 2 header.e_shentsize
    ++ bytes_of 2 header.e_shnum
    ++ bytes_of 2 header.e_shstrndx

-- a section header at `at` (gABI "Sections", Elf64_Shdr)
unfoldable pub shdr_at : List ℕ → ℕ → Shdr
shdr_at bytes at = record {
  sh_name = num bytes at 4;
  sh_type = num bytes (at + 4) 4;
  sh_flags = num bytes (at + 8) 8;
  sh_addr = num bytes (at + 16) 8;
  sh_offset = num bytes (at + 24) 8;
  sh_size = num bytes (at + 32) 8;
  sh_link = num bytes (at + 40) 4;
  sh_info = num bytes (at + 44) 4;
  sh_addralign = num bytes (at + 48) 8;
  sh_entsize = num bytes (at + 56) 8;
}

-- the bytes of a section header
unfoldable pub shdr_bytes : Shdr → List ℕ
shdr_bytes header =
    bytes_of 4 header.sh_name
    ++ bytes_of 4 header.sh_type
    ++ bytes_of 8 header.sh_flags
    ++ bytes_of 8 header.sh_addr
    ++ bytes_of 8 header.sh_offset
    ++ bytes_of 8 header.sh_size
    ++ bytes_of 4 header.sh_link
    ++ bytes_of 4 header.sh_info
    ++ bytes_of 8 header.sh_addralign
    ++ bytes_of 8 header.sh_entsize

-- a program header at `at` (gABI "Program Header", Elf64_Phdr)
unfoldable pub phdr_at : List ℕ → ℕ → Phdr
phdr_at bytes at = record {
  p_type = num bytes at 4;
  p_flags = num bytes (at + 4) 4;
  p_offset = num bytes (at + 8) 8;
  p_vaddr = num bytes (at + 16) 8;
  p_paddr = num bytes (at + 24) 8;
  p_filesz = num bytes (at + 32) 8;
  p_memsz = num bytes (at + 40) 8;
  p_align = num bytes (at + 48) 8;
}

-- the bytes of a program header
unfoldable pub phdr_bytes : Phdr → List ℕ
phdr_bytes header =
    bytes_of 4 header.p_type
    ++ bytes_of 4 header.p_flags
    ++ bytes_of 8 header.p_offset
    ++ bytes_of 8 header.p_vaddr
    ++ bytes_of 8 header.p_paddr
    ++ bytes_of 8 header.p_filesz
    ++ bytes_of 8 header.p_memsz
    ++ bytes_of 8 header.p_align

-- a symbol at `at` (gABI "Symbol Table", Elf64_Sym)
unfoldable pub sym_at : List ℕ → ℕ → Sym
sym_at bytes at = record {
  st_name = num bytes at 4;
  st_info = num bytes (at + 4) 1;
  st_other = num bytes (at + 5) 1;
  st_shndx = num bytes (at + 6) 2;
  st_value = num bytes (at + 8) 8;
  st_size = num bytes (at + 16) 8;
}

-- the bytes of a symbol
unfoldable pub sym_bytes : Sym → List ℕ
sym_bytes symbol =
    bytes_of 4 symbol.st_name
    ++ bytes_of 1 symbol.st_info
    ++ bytes_of 1 symbol.st_other
    ++ bytes_of 2 symbol.st_shndx
    ++ bytes_of 8 symbol.st_value
    ++ bytes_of 8 symbol.st_size

-- a relocation with an addend at `at` (gABI "Relocation", Elf64_Rela)
unfoldable pub rela_at : List ℕ → ℕ → Rela
rela_at bytes at = record {
  r_offset = num bytes at 8;
  r_info = num bytes (at + 8) 8;
  r_addend = signed64 (num bytes (at + 16) 8);
}

-- the bytes of a relocation with an addend
unfoldable pub rela_bytes : Rela → List ℕ
rela_bytes relocation =
    bytes_of 8 relocation.r_offset
    ++ bytes_of 8 relocation.r_info
    ++ bytes_of 8 (unsigned64 relocation.r_addend)

-- an entry of the dynamic section at `at` (gABI "Dynamic Section", Elf64_Dyn)
unfoldable pub dyn_at : List ℕ → ℕ → Dyn
dyn_at bytes at = record {
  d_tag = signed64 (num bytes at 8);
  d_un = num bytes (at + 8) 8;
}

-- the bytes of an entry of the dynamic section
unfoldable pub dyn_bytes : Dyn → List ℕ
dyn_bytes entry =
    bytes_of 8 (unsigned64 entry.d_tag)
    ++ bytes_of 8 entry.d_un
