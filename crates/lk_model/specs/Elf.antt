-- A file with the parts that its header names (gABI "ELF Header", "Sections", "String Table",
-- "Symbol Table"). Sections count from 1: number 0 names none, and its header is not looked at.
use Rattle.std.specs.Prelude.{ℕ, zero, suc, ◌+◌, ◌*◌, ◌/◌, ◌==◌, Bool, if◌then◌else◌, nat_le, List, [], map, length, take, drop, slice_get, find, Option, Some, None, option_and_then}
use Rattle.std.specs.List.{list_any, range_with_len, enumerate_from, before_first}
use Rattle.std.specs.Bool.{then_some}
use Rattle.lk_elf.specs.Numbers.{sht_symtab, shdr_size, sym_size}
use Rattle.lk_elf.specs.Records.{ehdr_at, shdr_at, sym_at}
use Rattle.lk_elf.specs.declared.file_header.Ehdr.{Ehdr}
use Rattle.lk_elf.specs.declared.section_header.Shdr.{Shdr}
use Rattle.lk_elf.specs.declared.symbol.Sym.{Sym}
use Rattle.lk_model.specs.Views.{Elf}

-- whether so many bytes at this place lie in the file
abbrev pub lies_in : List ℕ → ℕ → ℕ → Bool
lies_in bytes at size = nat_le (at + size) (length bytes)

-- the section headers, or none where they do not all lie in the file
unfoldable pub section_headers_of : List ℕ → Ehdr → List Shdr
section_headers_of bytes header =
    map (λ n. shdr_at bytes (header.e_shoff + shdr_size * n))
    (range_with_len 0 (if lies_in bytes header.e_shoff (shdr_size * header.e_shnum) then header.e_shnum else 0))

-- section headers with their numbers, from 1
abbrev pub numbered : List Shdr → List (ℕ × Shdr)
numbered headers = enumerate_from 1 (drop 1 headers)

-- the first section of a type, with its number
abbrev pub first_of_type : ℕ → List Shdr → Option (ℕ × Shdr)
first_of_type code headers = find (λ (row : ℕ × Shdr). row.1.sh_type == code) (numbered headers)

-- the entries of a symbol table, or none where its bytes do not lie in the file
unfoldable pub symbols_of : List ℕ → Option (ℕ × Shdr) → List Sym
symbols_of bytes None = []
symbols_of bytes (Some table) =
    map (λ k. sym_at bytes (table.1.sh_offset + sym_size * k))
    (range_with_len 0 (if lies_in bytes table.1.sh_offset table.1.sh_size then table.1.sh_size / sym_size else 0))

-- a file with these section headers
unfoldable pub elf_with : List ℕ → Ehdr → List Shdr → Elf
elf_with bytes header headers = record {
  bytes = bytes;
  header = header;
  sections = headers;
  symbols = symbols_of bytes (first_of_type sht_symtab headers);
}

-- a file with this header
unfoldable pub elf_under : List ℕ → Ehdr → Elf
elf_under bytes header = elf_with bytes header (section_headers_of bytes header)

-- the file that these bytes are
unfoldable pub elf_of : List ℕ → Elf
elf_of bytes = elf_under bytes (ehdr_at bytes 0)

-- the header of a section
abbrev pub section_at : Elf → ℕ → Option Shdr
section_at elf zero = None
section_at elf (suc n) = slice_get elf.sections (suc n)

-- the bytes of the file that a section header names
abbrev pub bytes_under : Elf → Shdr → List ℕ
bytes_under elf header = take header.sh_size (drop header.sh_offset elf.bytes)

-- a text up to its closing zero; none where no zero follows
abbrev pub text_in : List ℕ → Option (List ℕ)
text_in bytes = then_some (list_any (λ b. b == 0) bytes) (before_first (λ b. b == 0) bytes)

-- the name at an offset of a string section (gABI "String Table"): its closing zero lies in the
-- section and in the file
unfoldable pub name_at : Elf → ℕ → ℕ → Option (List ℕ)
name_at elf strings offset =
    option_and_then (λ (header : Shdr). text_in (drop offset (bytes_under elf header))) (section_at elf strings)

-- the name of a section
unfoldable pub section_name : Elf → ℕ → Option (List ℕ)
section_name elf n =
    option_and_then (λ (header : Shdr). name_at elf elf.header.e_shstrndx header.sh_name) (section_at elf n)

-- the number and header of the symbol table
abbrev pub symbol_table : Elf → Option (ℕ × Shdr)
symbol_table elf = first_of_type sht_symtab elf.sections

-- the name of a symbol in a string section
abbrev pub name_of_symbol : Elf → ℕ → Sym → Option (List ℕ)
name_of_symbol elf strings symbol = name_at elf strings symbol.st_name

-- the name of a symbol, in the string section that the symbol table names
unfoldable pub symbol_name : Elf → ℕ → Option (List ℕ)
symbol_name elf k =
    option_and_then (λ (table : ℕ × Shdr). option_and_then (name_of_symbol elf table.1.sh_link) (slice_get elf.symbols k))
    (symbol_table elf)
