-- A file in the code (gABI "ELF Header", "Sections", "Symbol Table"): its bytes, and beside them the parts that were
-- read from it, which the definitions have in one record.
use Rattle.std.specs.Prelude.{ℕ, zero, suc, ◌==◌, Bool, List, slice_get, Option, None}
use Rattle.lk_elf.specs.declared.file_header.Ehdr.{Ehdr}
use Rattle.lk_elf.specs.declared.section_header.Shdr.{Shdr}
use Rattle.lk_elf.specs.declared.symbol.Sym.{Sym}
use Rattle.lk_model.specs.Checks.{is_some_with}
use Rattle.lk_model.specs.Views.{Elf}

-- a file of these bytes, with the parts that were read from them
abbrev pub elf_from : List ℕ → Ehdr → List Shdr → List Sym → Elf
elf_from bytes header sections symbols = record {
  bytes = bytes;
  header = header;
  sections = sections;
  symbols = symbols;
}

-- the header of a section among these; none for number 0, which names no section
abbrev pub header_at : List Shdr → ℕ → Option Shdr
header_at sections zero = None
header_at sections (suc n) = slice_get sections (suc n)

-- a section among these, by number, of a type
abbrev pub is_of_type_in : List Shdr → ℕ → ℕ → Bool
is_of_type_in sections code n = is_some_with (λ (header : Shdr). header.sh_type == code) (header_at sections n)
