-- The checks of a shared object (gABI "Sections", "Symbol Table", "Dynamic Section"): a list of conditions
-- on the whole file, each with its fault; the first that holds is its fault. The names of the faults and
-- their order are this project's own.
use Rattle.std.specs.Prelude.{ℕ, ◌*◌, ◌%◌, ◌==◌, Bool, not, ◌&&◌, List, [], ◌∷◌, ◌++◌, map, is_none, Option, Some, None, option_to_list}
use Rattle.lk_elf.specs.Numbers.{et_dyn, sht_strtab, shdr_size, sym_size, dyn_size, dt_soname}
use Rattle.lk_elf.specs.declared.section_header.Shdr.{Shdr}
use Rattle.lk_elf.specs.declared.symbol.Sym.{Sym}
use Rattle.lk_report.specs.declared.faults.InputFault.{InputFault}
use Rattle.lk_report.specs.declared.faults.InputFault.TheVariants.{WrongType, BadTable, BadName, NoDynamic}
use Rattle.lk_model.specs.Checks.{first_fault, is_some_with}
use Rattle.lk_model.specs.DynamicEntries.{first_with_tag}
use Rattle.lk_model.specs.Elf.{lies_in, section_at, name_at, name_of_symbol, elf_of}
use Rattle.lk_model.specs.Kinds.{kind_checks}
use Rattle.lk_model.specs.ObjectChecks.{is_of_type, is_cut_off}
use Rattle.lk_model.specs.SharedObjects.{dynamic_symbol_table, dynamic_section, symbols_under, entries_under}
use Rattle.lk_model.specs.Views.{Elf}

-- the checks of the section table, which are those of an object but for the type of the file
unfoldable pub shared_header_checks : Elf → List (Bool × InputFault)
shared_header_checks elf =
    (not (elf.header.e_type == et_dyn), WrongType)
    ∷ (not (elf.header.e_shentsize == shdr_size), BadTable 0)
    ∷ (elf.header.e_shnum == 0, BadTable 0)
    ∷ (not (lies_in elf.bytes elf.header.e_shoff (shdr_size * elf.header.e_shnum)), BadTable 0)
    ∷ (not (is_of_type elf sht_strtab elf.header.e_shstrndx), BadTable 0)
    ∷ []

-- a string section that the file does not hold
abbrev pub is_cut_off_strings : Elf → Shdr → Bool
is_cut_off_strings elf header = header.sh_type == sht_strtab && is_cut_off elf header

-- the string section that a table names is there, and the file does not hold it
abbrev pub has_cut_off_strings : Elf → Shdr → Bool
has_cut_off_strings elf header = is_some_with (is_cut_off_strings elf) (section_at elf header.sh_link)

-- the checks of the symbols of dynamic linking and of the dynamic section
unfoldable pub two_table_checks : Elf → Option (ℕ × Shdr) → Option (ℕ × Shdr) → List (Bool × InputFault)
two_table_checks elf None dynamic = []
two_table_checks elf (Some symbols) None = []
two_table_checks elf (Some symbols) (Some dynamic) =
    (is_cut_off elf symbols.1, BadTable symbols.0)
    ∷ (is_cut_off elf dynamic.1, BadTable dynamic.0)
    ∷ (has_cut_off_strings elf symbols.1, BadTable symbols.1.sh_link)
    ∷ (has_cut_off_strings elf dynamic.1, BadTable dynamic.1.sh_link)
    ∷ (not (symbols.1.sh_size % sym_size == 0), BadTable symbols.0)
    ∷ (not (dynamic.1.sh_size % dyn_size == 0), BadTable dynamic.0)
    ∷ (not (is_of_type elf sht_strtab symbols.1.sh_link), BadTable symbols.0)
    ∷ (not (is_of_type elf sht_strtab dynamic.1.sh_link), BadTable dynamic.0)
    ∷ []

-- the checks of the names of all symbols from entry 1, also of those that no other file may mean
unfoldable pub shared_name_checks : Elf → Option (ℕ × Shdr) → List (Bool × InputFault)
shared_name_checks elf None = []
shared_name_checks elf (Some table) =
    map (λ (row : ℕ × Sym). (is_none (name_of_symbol elf table.1.sh_link row.1), BadName table.0)) (symbols_under elf table)

-- the check of the name that the first SONAME gives, where there is one
unfoldable pub soname_checks : Elf → Option (ℕ × Shdr) → List (Bool × InputFault)
soname_checks elf None = []
soname_checks elf (Some table) =
    map (λ offset. (is_none (name_at elf table.1.sh_link offset), BadName table.0))
    (option_to_list (first_with_tag dt_soname (entries_under elf table.1)))

-- the checks of a shared object in their order: section table, the two tables, names
unfoldable pub shared_checks : Elf → List (Bool × InputFault)
shared_checks elf =
    shared_header_checks elf
    ++ (is_none (dynamic_symbol_table elf), NoDynamic)
    ∷ (is_none (dynamic_section elf), NoDynamic)
    ∷ two_table_checks elf (dynamic_symbol_table elf) (dynamic_section elf)
    ++ shared_name_checks elf (dynamic_symbol_table elf)
    ++ soname_checks elf (dynamic_section elf)

-- the fault of a file whose kind has this fault
abbrev pub shared_fault_after : Option InputFault → List ℕ → Option InputFault
shared_fault_after (Some fault) bytes = Some fault
shared_fault_after None bytes = first_fault (shared_checks (elf_of bytes))

-- the fault of a file that is read as a shared object
unfoldable pub shared_fault : List ℕ → Option InputFault
shared_fault bytes = shared_fault_after (first_fault (kind_checks bytes)) bytes
