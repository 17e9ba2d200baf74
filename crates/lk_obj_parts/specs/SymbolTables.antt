-- Where the symbol table is among section headers (gABI "Symbol Table").
use Rattle.std.specs.Prelude.{ℕ, ◌==◌, List, drop, find, Option, option_map}
use Rattle.std.specs.List.{enumerate_from}
use Rattle.lk_elf.specs.Numbers.{sht_symtab}
use Rattle.lk_elf.specs.declared.section_header.Shdr.{Shdr}
use Rattle.lk_obj_parts.specs.declared.symbol_tables.SymbolsAt.{SymbolsAt}

-- the section of a symbol table with its string section
abbrev pub place_of_table : ℕ × Shdr → SymbolsAt
place_of_table row = record { section = row.0; strings = row.1.sh_link }

-- where the first symbol table of these sections is, the first of which has this number
unfoldable pub symbols_from : ℕ → List Shdr → Option SymbolsAt
symbols_from n headers =
    option_map place_of_table (find (λ (row : ℕ × Shdr). row.1.sh_type == sht_symtab) (enumerate_from n headers))

-- where the symbol table is
abbrev pub symbols_at : List Shdr → Option SymbolsAt
symbols_at headers = symbols_from 1 (drop 1 headers)
