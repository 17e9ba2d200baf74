-- The checks of an object (gABI "Sections", "Symbol Table", "Relocation", "Section Groups"): a list of
-- conditions on the whole file, each with its fault; the first that holds is the object's fault. The
-- names of the faults and their order are this project's own.
use Rattle.std.specs.Prelude.{ℕ, ◌+◌, ◌*◌, ◌%◌, ◌==◌, Bool, true, false, not, ◌&&◌, ◌||◌, if◌then◌else◌, nat_eq, nat_lt, nat_le, List, [], ◌∷◌, ◌++◌, map, filter, flat_map, length, drop, codes, is_some, is_none, Option, Some, None}
use Rattle.std.specs.List.{list_any, list_all, starts_with, enumerate_from}
use Rattle.lk_elf.specs.Numbers.{et_rel, sht_null, sht_progbits, sht_symtab, sht_strtab, sht_rela, sht_note, sht_nobits, sht_rel, sht_init_array, sht_fini_array, sht_preinit_array, sht_symtab_shndx, sht_x86_64_unwind, shf_alloc, shf_tls, shf_compressed, stb_weak, stt_tls, stt_gnu_ifunc, shn_undef, shn_abs, shn_common, shn_xindex, shdr_size, sym_size, rela_size}
use Rattle.lk_elf.specs.declared.section_header.Shdr.{Shdr}
use Rattle.lk_elf.specs.declared.symbol.Sym.{Sym}
use Rattle.lk_elf.specs.declared.relocation.Rela.{Rela}
use Rattle.lk_report.specs.declared.faults.InputFault.{InputFault}
use Rattle.lk_report.specs.declared.faults.InputFault.TheVariants.{WrongType, BadTable, BadName, BadSymbol, BadRela, BadGroup, Compressed, UnsupportedSection, UnknownAlloc, UnsupportedSymbol}
use Rattle.lk_model.specs.Amounts.{is_small_power, has_flag}
pub use Rattle.lk_model.specs.Checks.{first_fault}
use Rattle.lk_model.specs.Checks.{is_some_with}
use Rattle.lk_model.specs.Elf.{lies_in, numbered, section_at, section_name, symbol_table, symbol_name, elf_of}
use Rattle.lk_model.specs.Kinds.{kind_checks}
use Rattle.lk_model.specs.Objects.{binding_of, type_of, is_local, numbered_symbols, relas_under, rela_sections_of, is_piece_in, group_sections, words_under, members_under, signature_of}
use Rattle.lk_model.specs.Pieces.{is_piece, is_table_name, is_tail_name}
use Rattle.lk_model.specs.RelocationTypes.{width_of}
use Rattle.lk_model.specs.Views.{Elf}
use Rattle.lk_elf.specs.RelocationInfo.{r_type_of}
use Rattle.lk_elf.specs.RelocationInfo.{r_symbol_of}

-- ---- the section table

-- a section, by number, of a type
abbrev pub is_of_type : Elf → ℕ → ℕ → Bool
is_of_type elf code n = is_some_with (λ (header : Shdr). header.sh_type == code) (section_at elf n)

-- a section of this number is there
abbrev pub is_section : Elf → ℕ → Bool
is_section elf n = is_some (section_at elf n)

-- the checks of the section table
unfoldable pub table_checks : Elf → List (Bool × InputFault)
table_checks elf =
    (not (elf.header.e_type == et_rel), WrongType)
    ∷ (not (elf.header.e_shentsize == shdr_size), BadTable 0)
    ∷ (elf.header.e_shnum == 0, BadTable 0)
    ∷ (not (lies_in elf.bytes elf.header.e_shoff (shdr_size * elf.header.e_shnum)), BadTable 0)
    ∷ (not (is_of_type elf sht_strtab elf.header.e_shstrndx), BadTable 0)
    ∷ []

-- ---- sections

-- a section whose bytes the file does not hold
abbrev pub is_cut_off : Elf → Shdr → Bool
is_cut_off elf header =
    not (header.sh_type == sht_null || header.sh_type == sht_nobits)
    && not (lies_in elf.bytes header.sh_offset header.sh_size)

-- an alignment that sections may have
abbrev pub is_alignment : ℕ → Bool
is_alignment n = n == 0 || is_small_power n

-- a section that is stored compressed
abbrev pub is_compressed : Shdr → List ℕ → Bool
is_compressed header name = has_flag header.sh_flags shf_compressed || starts_with nat_eq name (codes ".zdebug_")

-- a section that is refused: of a refused type, or a piece with a name that the linker keeps for itself
abbrev pub is_unsupported : Shdr → List ℕ → Bool
is_unsupported header name =
    header.sh_type == sht_rel
    || header.sh_type == sht_symtab_shndx
    || (is_piece name header.sh_type header.sh_flags && (is_table_name name || is_tail_name name))

-- the types that loaded sections may have
abbrev pub loaded_types : List ℕ
loaded_types =
    sht_progbits ∷ sht_nobits ∷ sht_note ∷ sht_init_array ∷ sht_fini_array ∷ sht_preinit_array ∷ sht_x86_64_unwind ∷ []

-- a loaded section of another type
abbrev pub is_unknown_alloc : Shdr → Bool
is_unknown_alloc header = has_flag header.sh_flags shf_alloc && not (list_any (nat_eq header.sh_type) loaded_types)

-- the checks of a section with this name
unfoldable pub section_checks_named : Elf → ℕ → Shdr → Option (List ℕ) → List (Bool × InputFault)
section_checks_named elf n header name =
    (is_cut_off elf header, BadTable n)
    ∷ (not (is_alignment header.sh_addralign), BadTable n)
    ∷ (is_none name, BadName n)
    ∷ (is_some_with (is_compressed header) name, Compressed n)
    ∷ (is_some_with (is_unsupported header) name, UnsupportedSection n)
    ∷ (is_unknown_alloc header, UnknownAlloc n)
    ∷ []

-- the checks of a section
abbrev pub section_checks : Elf → ℕ × Shdr → List (Bool × InputFault)
section_checks elf section = section_checks_named elf section.0 section.1 (section_name elf section.0)

-- ---- symbols

-- the symbol tables after the first, each refused
abbrev pub second_tables : Elf → List (ℕ × Shdr)
second_tables elf = drop 1 (filter (λ (row : ℕ × Shdr). row.1.sh_type == sht_symtab) (numbered elf.sections))

-- the checks of the symbol table itself
unfoldable pub symbol_table_checks : Elf → Option (ℕ × Shdr) → List (Bool × InputFault)
symbol_table_checks elf None = []
symbol_table_checks elf (Some table) =
    map (λ (row : ℕ × Shdr). (true, BadTable row.0)) (second_tables elf)
    ++ (not (table.1.sh_entsize == sym_size), BadTable table.0)
    ∷ (not (table.1.sh_size % sym_size == 0), BadTable table.0)
    ∷ (table.1.sh_size == 0, BadTable table.0)
    ∷ (not (is_of_type elf sht_strtab table.1.sh_link), BadTable table.0)
    ∷ (nat_lt (length elf.symbols) table.1.sh_info, BadTable table.0)
    ∷ []

-- a section number that a symbol may have
abbrev pub is_symbol_section : Elf → ℕ → Bool
is_symbol_section elf n = n == shn_undef || n == shn_abs || n == shn_common || is_section elf n

-- a common block: whatever its binding, a symbol in section COMMON
abbrev pub is_common : Sym → Bool
is_common symbol = symbol.st_shndx == shn_common

-- a thread-local symbol
abbrev pub is_tls : Sym → Bool
is_tls symbol = type_of symbol == stt_tls

-- a section, by number, with the flag TLS
abbrev pub is_tls_section : Elf → ℕ → Bool
is_tls_section elf n = is_some_with (λ (header : Shdr). has_flag header.sh_flags shf_tls) (section_at elf n)

-- a symbol on the wrong side of the first symbol that is not LOCAL (gABI "Sections", sh_info)
abbrev pub is_misplaced : ℕ → ℕ → Sym → Bool
is_misplaced first k symbol = if nat_le first k then is_local symbol else not (is_local symbol)

-- a symbol of a kind that is refused
abbrev pub is_unsupported_symbol : Sym → Bool
is_unsupported_symbol symbol =
    nat_lt stb_weak (binding_of symbol)
    || type_of symbol == stt_gnu_ifunc
    || (is_common symbol && (is_local symbol || is_tls symbol))

-- a thread-local symbol that is to be in a thread-local section, and is not
abbrev pub is_stray_tls : Elf → Sym → Bool
is_stray_tls elf symbol =
    is_tls symbol
    && (is_local symbol || not (symbol.st_shndx == shn_undef))
    && (symbol.st_shndx == shn_abs || not (is_tls_section elf symbol.st_shndx))

-- the checks of a symbol with this name; `first` is the number of the first that may be not LOCAL
unfoldable pub symbol_checks_named : Elf → ℕ → ℕ → Sym → Option (List ℕ) → List (Bool × InputFault)
symbol_checks_named elf first k symbol name =
    (is_none name, BadSymbol k)
    ∷ (symbol.st_shndx == shn_xindex, UnsupportedSymbol k)
    ∷ (not (is_symbol_section elf symbol.st_shndx), BadSymbol k)
    ∷ (is_misplaced first k symbol, BadSymbol k)
    ∷ (nat_le first k && is_some_with (λ text. length text == 0) name, BadSymbol k)
    ∷ (is_unsupported_symbol symbol, UnsupportedSymbol k)
    ∷ (is_common symbol && not (is_small_power symbol.st_value), BadSymbol k)
    ∷ (is_stray_tls elf symbol, BadSymbol k)
    ∷ []

-- the checks of a symbol
abbrev pub symbol_checks_from : Elf → ℕ → ℕ × Sym → List (Bool × InputFault)
symbol_checks_from elf first row = symbol_checks_named elf first row.0 row.1 (symbol_name elf row.0)

-- the checks of all symbols from entry 1
abbrev pub symbol_checks : Elf → Option (ℕ × Shdr) → List (Bool × InputFault)
symbol_checks elf None = []
symbol_checks elf (Some table) = flat_map (symbol_checks_from elf table.1.sh_info) (numbered_symbols elf)

-- ---- relocations

-- the symbol table has this number
abbrev pub is_symbol_table : Elf → ℕ → Bool
is_symbol_table elf n = is_some_with (λ (table : ℕ × Shdr). table.0 == n) (symbol_table elf)

-- a field that does not fit in its target
abbrev pub is_outside : ℕ → Rela → Bool
is_outside size rela = nat_lt size (rela.r_offset + width_of (r_type_of rela))

-- the checks of a relocation: of entry k of section n, on a target
unfoldable pub rela_checks : Elf → ℕ → Shdr → ℕ × Rela → List (Bool × InputFault)
rela_checks elf n target row =
    (not (nat_lt (r_symbol_of row.1) (length elf.symbols)), BadRela n row.0)
    ∷ (is_outside target.sh_size row.1, BadRela n row.0)
    ∷ (target.sh_type == sht_nobits, BadRela n row.0)
    ∷ []

-- the checks of the relocations of section n on a piece; those on another target are passed over
abbrev pub entry_checks : Elf → ℕ → Shdr → Bool → Option Shdr → List (Bool × InputFault)
entry_checks elf n header piece None = []
entry_checks elf n header false (Some target) = []
entry_checks elf n header true (Some target) = flat_map (rela_checks elf n target) (enumerate_from 0 (relas_under elf header))

-- the checks of a section of relocations
unfoldable pub rela_section_checks : Elf → ℕ × Shdr → List (Bool × InputFault)
rela_section_checks elf row =
    (not (row.1.sh_entsize == rela_size), BadTable row.0)
    ∷ (not (row.1.sh_size % rela_size == 0), BadTable row.0)
    ∷ (not (is_symbol_table elf row.1.sh_link), BadTable row.0)
    ∷ (not (is_section elf row.1.sh_info), BadTable row.0)
    ∷ entry_checks elf row.0 row.1 (is_piece_in elf row.1.sh_info) (section_at elf row.1.sh_info)

-- the sections of relocations with their numbers
abbrev pub rela_sections : Elf → List (ℕ × Shdr)
rela_sections elf = filter (λ (row : ℕ × Shdr). row.1.sh_type == sht_rela) (numbered elf.sections)

-- two fields, each with its width, share a byte
abbrev pub share_a_byte : ℕ → ℕ → ℕ → ℕ → Bool
share_a_byte a a_width b b_width =
    nat_lt 0 a_width && nat_lt 0 b_width && nat_lt a (b + b_width) && nat_lt b (a + a_width)

-- the fields of two relocations share a byte
abbrev pub share_field : Rela → Rela → Bool
share_field a b = share_a_byte a.r_offset (width_of (r_type_of a)) b.r_offset (width_of (r_type_of b))

-- the relocations of a target with the number of their section and entry
abbrev pub sites_in : Elf → ℕ → List (ℕ × ℕ × Rela)
sites_in elf target =
    flat_map (λ (row : ℕ × Shdr). map (λ (entry : ℕ × Rela). (row.0, entry.0, entry.1)) (enumerate_from 0 (relas_under elf row.1)))
    (rela_sections_of elf target)

-- each relocation against those before it
unfoldable pub overlap_checks_after : List Rela → List (ℕ × ℕ × Rela) → List (Bool × InputFault)
overlap_checks_after earlier [] = []
overlap_checks_after earlier (site ∷ sites) =
    (list_any (share_field site.2) earlier, BadRela site.0 site.1) ∷ overlap_checks_after (site.2 ∷ earlier) sites

-- the checks that no two fields of a piece share a byte
abbrev pub overlap_checks : Elf → Bool → ℕ → List (Bool × InputFault)
overlap_checks elf false target = []
overlap_checks elf true target = overlap_checks_after [] (sites_in elf target)

-- ---- groups

-- a size that a group may have (gABI "Section Groups"): a flag word and whole member words
abbrev pub is_group_size : ℕ → Bool
is_group_size size = nat_le 4 size && size % 4 == 0

-- the flag word is 0 or 1
abbrev pub has_group_flag : List ℕ → Bool
has_group_flag [] = false
has_group_flag (word ∷ words) = word == 0 || word == 1

-- the checks of a group; `claimed` are the members of the groups before it
unfoldable pub group_checks : Elf → List ℕ → ℕ → Shdr → List ℕ → List (Bool × InputFault)
group_checks elf claimed n header members =
    (not (is_group_size header.sh_size), BadGroup n)
    ∷ (not (is_symbol_table elf header.sh_link), BadGroup n)
    ∷ (is_none (signature_of elf header.sh_info), BadGroup n)
    ∷ (not (has_group_flag (words_under elf header)), BadGroup n)
    ∷ (not (list_all (is_section elf) members), BadGroup n)
    ∷ (list_any (λ member. list_any (nat_eq member) claimed) members, BadGroup n)
    ∷ []

-- the checks of groups after those that claimed these members
unfoldable pub group_checks_after : Elf → List ℕ → List (ℕ × Shdr) → List (Bool × InputFault)
group_checks_after elf claimed [] = []
group_checks_after elf claimed (row ∷ rows) =
    group_checks elf claimed row.0 row.1 (members_under elf row.1)
    ++ group_checks_after elf (claimed ++ members_under elf row.1) rows

-- ---- the whole

-- the checks of an object in their order: section table, sections, symbols, relocations, groups
unfoldable pub object_checks : Elf → List (Bool × InputFault)
object_checks elf =
    table_checks elf
    ++ flat_map (section_checks elf) (numbered elf.sections)
    ++ symbol_table_checks elf (symbol_table elf)
    ++ symbol_checks elf (symbol_table elf)
    ++ flat_map (rela_section_checks elf) (rela_sections elf)
    ++ flat_map (λ (row : ℕ × Shdr). overlap_checks elf (is_piece_in elf row.0) row.0) (numbered elf.sections)
    ++ group_checks_after elf [] (group_sections elf)

-- the fault of a file whose kind has this fault
abbrev pub object_fault_after : Option InputFault → List ℕ → Option InputFault
object_fault_after (Some fault) bytes = Some fault
object_fault_after None bytes = first_fault (object_checks (elf_of bytes))

-- the fault of a file that is read as an object
unfoldable pub object_fault : List ℕ → Option InputFault
object_fault bytes = object_fault_after (first_fault (kind_checks bytes)) bytes
