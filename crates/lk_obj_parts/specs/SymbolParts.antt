-- The checks of the symbol table and of a symbol in parts (gABI "Symbol Table"): one after the other
-- they are the checks of the table and of a symbol.
use Rattle.std.specs.Prelude.{ℕ, zero, suc, ◌%◌, ◌==◌, Bool, true, false, not, ◌&&◌, ◌||◌, cond, nat_lt, nat_le, List, [], ◌∷◌, ◌++◌, map, filter, flat_map, filter_map, length, take, drop, slice_get, option_map, option_and_then, unwrap_or, is_none, is_some, Option, Some, None}
use Rattle.std.specs.List.{enumerate_from}
use Rattle.lk_elf.specs.Numbers.{sht_symtab, sht_strtab, shf_tls, shn_undef, shn_abs, shn_common, shn_xindex, sym_size}
use Rattle.lk_elf.specs.declared.section_header.Shdr.{Shdr}
use Rattle.lk_elf.specs.declared.symbol.Sym.{Sym}
use Rattle.lk_report.specs.declared.faults.InputFault.{InputFault}
use Rattle.lk_report.specs.declared.faults.InputFault.TheVariants.{BadTable, BadSymbol, UnsupportedSymbol}
use Rattle.lk_model.specs.declared.summaries.Global.{Global}
use Rattle.lk_model.specs.declared.summaries.Local.{Local}
use Rattle.lk_model.specs.Amounts.{has_flag, is_small_power}
use Rattle.lk_model.specs.Checks.{first_fault, is_some_with}
use Rattle.lk_model.specs.Elf.{symbol_name, text_in}
use Rattle.lk_model.specs.ObjectChecks.{is_common, is_misplaced, is_tls, is_unsupported_symbol, symbol_checks_from}
use Rattle.lk_model.specs.Objects.{global_with, is_local, local_with, null_symbol}
use Rattle.lk_model.specs.Views.{Elf}
use Rattle.lk_obj_parts.specs.ElfViews.{header_at, is_of_type_in}

-- ---- the symbol table

-- the symbol tables among these sections
abbrev pub is_table : ℕ × Shdr → Bool
is_table row = row.1.sh_type == sht_symtab

-- the symbol tables that are refused: all of these, or all but the first
abbrev pub refused_tables : Bool → List (ℕ × Shdr) → List (ℕ × Shdr)
refused_tables true rows = filter is_table rows
refused_tables false rows = drop 1 (filter is_table rows)

-- the first fault of these tables, each of which is refused
abbrev pub refused_fault : List (ℕ × Shdr) → Option InputFault
refused_fault rows = first_fault (map (λ (row : ℕ × Shdr). (true, BadTable row.0)) rows)

-- the checks of the header of the symbol table, in a file with this many symbols
unfoldable pub form_checks : List Shdr → ℕ → ℕ → Shdr → List (Bool × InputFault)
form_checks sections count n header =
    (not (header.sh_entsize == sym_size), BadTable n)
    ∷ (not (header.sh_size % sym_size == 0), BadTable n)
    ∷ (header.sh_size == 0, BadTable n)
    ∷ (not (is_of_type_in sections sht_strtab header.sh_link), BadTable n)
    ∷ (nat_lt count header.sh_info, BadTable n)
    ∷ []

-- the number of the string table that the symbol table names; 0, which no section has, without a symbol table
abbrev pub strings_named : Option (ℕ × Shdr) → ℕ
strings_named None = 0
strings_named (Some table) = table.1.sh_link

-- the name at an offset of a string section among these
unfoldable pub name_in : List ℕ → List Shdr → ℕ → ℕ → Option (List ℕ)
name_in bytes sections strings offset =
    option_and_then (λ (header : Shdr). text_in (drop offset (take header.sh_size (drop header.sh_offset bytes)))) (header_at sections strings)

-- ---- a symbol

-- a section number that a symbol may have
abbrev pub is_symbol_section_in : List Shdr → ℕ → Bool
is_symbol_section_in sections n = n == shn_undef || n == shn_abs || n == shn_common || is_some (header_at sections n)

-- a section among these, by number, with the flag TLS
abbrev pub is_tls_section_in : List Shdr → ℕ → Bool
is_tls_section_in sections n = is_some_with (λ (header : Shdr). has_flag header.sh_flags shf_tls) (header_at sections n)

-- a thread-local symbol that is to be in a thread-local section, and is not
abbrev pub is_stray_tls_in : List Shdr → Sym → Bool
is_stray_tls_in sections symbol =
    is_tls symbol
    && (is_local symbol || not (symbol.st_shndx == shn_undef))
    && (symbol.st_shndx == shn_abs || not (is_tls_section_in sections symbol.st_shndx))

-- the checks of its name and its section
unfoldable pub entry_checks : List Shdr → ℕ → Sym → Option (List ℕ) → List (Bool × InputFault)
entry_checks sections k symbol name =
    (is_none name, BadSymbol k)
    ∷ (symbol.st_shndx == shn_xindex, UnsupportedSymbol k)
    ∷ (not (is_symbol_section_in sections symbol.st_shndx), BadSymbol k)
    ∷ []

-- the checks that LOCAL symbols come before the others, and that the others have names
unfoldable pub side_checks : ℕ → ℕ → Sym → Option (List ℕ) → List (Bool × InputFault)
side_checks first k symbol name =
    (is_misplaced first k symbol, BadSymbol k)
    ∷ (nat_le first k && is_some_with (λ text. length text == 0) name, BadSymbol k)
    ∷ []

-- the checks of its type and binding, of the alignment of a common block, and of thread-local storage
unfoldable pub sort_checks : List Shdr → ℕ → Sym → List (Bool × InputFault)
sort_checks sections k symbol =
    (is_unsupported_symbol symbol, UnsupportedSymbol k)
    ∷ (is_common symbol && not (is_small_power symbol.st_value), BadSymbol k)
    ∷ (is_stray_tls_in sections symbol, BadSymbol k)
    ∷ []

-- all checks of a symbol
unfoldable pub checks_in : List Shdr → ℕ → ℕ → Sym → Option (List ℕ) → List (Bool × InputFault)
checks_in sections first k symbol name = entry_checks sections k symbol name ++ (side_checks first k symbol name ++ sort_checks sections k symbol)

-- ---- symbol after symbol

-- the first fault of these symbols, the first of which has this number
unfoldable pub faults_from : Elf → ℕ → ℕ → List Sym → Option InputFault
faults_from elf first k symbols = first_fault (flat_map (symbol_checks_from elf first) (enumerate_from k symbols))

-- a symbol that is not LOCAL with this name, if it has one
abbrev pub global_named : ℕ → Sym → Option (List ℕ) → Option Global
global_named k symbol name = option_map (global_with k symbol) name

-- a symbol that is not LOCAL and has a name in this string section
unfoldable pub global_at : List ℕ → List Shdr → ℕ → ℕ → Sym → Option Global
global_at bytes sections strings k symbol = cond (is_local symbol) None (global_named k symbol (name_in bytes sections strings symbol.st_name))

-- the symbols of these that are not LOCAL and have names
abbrev pub globals_from : Elf → ℕ → List Sym → List Global
globals_from elf k symbols =
    filter_map (λ (row : ℕ × Sym). option_map (global_with row.0 row.1) (symbol_name elf row.0))
    (filter (λ (row : ℕ × Sym). not (is_local row.1)) (enumerate_from k symbols))

-- a LOCAL symbol of these, by its number
abbrev pub local_among : List Sym → ℕ → Local
local_among symbols zero = null_symbol
local_among symbols (suc k) = unwrap_or (option_map local_with (slice_get symbols (suc k))) null_symbol
