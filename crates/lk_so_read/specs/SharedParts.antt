-- The checks of a shared object in parts (gABI "Sections", "Symbol Table", "Dynamic Section"): those before
-- the entries of its two tables are looked at, and among these where the tables are and of what form.
use Rattle.std.specs.Prelude.{◌≡◌, ℕ, ◌%◌, ◌==◌, Bool, false, not, List, [], ◌∷◌, ◌++◌, is_none, Some, None, Result, Ok, Err}
use Rattle.lk_elf.specs.Numbers.{sht_strtab, sym_size, dyn_size}
use Rattle.lk_elf.specs.declared.section_header.Shdr.{Shdr}
use Rattle.lk_report.specs.declared.faults.InputFault.{InputFault}
use Rattle.lk_report.specs.declared.faults.InputFault.TheVariants.{BadTable, NoDynamic}
use Rattle.lk_model.specs.declared.summaries.Global.{Global}
use Rattle.lk_model.specs.declared.summaries.InputSummary.{InputSummary}
use Rattle.lk_model.specs.declared.summaries.Kind.TheVariants as kind
use Rattle.lk_model.specs.Checks.{first_fault}
use Rattle.lk_model.specs.ObjectChecks.{is_cut_off, is_of_type}
use Rattle.lk_model.specs.SharedChecks.{has_cut_off_strings, shared_header_checks, two_table_checks}
use Rattle.lk_model.specs.SharedObjects.{dynamic_section, dynamic_symbol_table}
use Rattle.lk_model.specs.Views.{Elf}
use Rattle.lk_so_read.specs.declared.dynamic_tables.DynamicTables.{DynamicTables}

-- the file holds the symbols of dynamic linking, the dynamic section, and the strings of each
unfoldable pub fit_checks : Elf → ℕ × Shdr → ℕ × Shdr → List (Bool × InputFault)
fit_checks elf symbols dynamic =
    (is_cut_off elf symbols.1, BadTable symbols.0)
    ∷ (is_cut_off elf dynamic.1, BadTable dynamic.0)
    ∷ (has_cut_off_strings elf symbols.1, BadTable symbols.1.sh_link)
    ∷ (has_cut_off_strings elf dynamic.1, BadTable dynamic.1.sh_link)
    ∷ []

-- both hold whole entries, and name a string section
unfoldable pub form_checks : Elf → ℕ × Shdr → ℕ × Shdr → List (Bool × InputFault)
form_checks elf symbols dynamic =
    (not (symbols.1.sh_size % sym_size == 0), BadTable symbols.0)
    ∷ (not (dynamic.1.sh_size % dyn_size == 0), BadTable dynamic.0)
    ∷ (not (is_of_type elf sht_strtab symbols.1.sh_link), BadTable symbols.0)
    ∷ (not (is_of_type elf sht_strtab dynamic.1.sh_link), BadTable dynamic.0)
    ∷ []

-- the checks before the entries of the two tables are looked at
unfoldable pub front_checks : Elf → List (Bool × InputFault)
front_checks elf =
    shared_header_checks elf
    ++ (is_none (dynamic_symbol_table elf), NoDynamic)
    ∷ (is_none (dynamic_section elf), NoDynamic)
    ∷ two_table_checks elf (dynamic_symbol_table elf) (dynamic_section elf)

-- the two tables of a file where none of these checks fails, else the fault of the first that does
abbrev pub TablesGive : Elf → Result DynamicTables InputFault → Type 0
TablesGive elf (Ok tables) =
    (first_fault (front_checks elf) ≡ None)
    × (dynamic_symbol_table elf ≡ Some tables.symbols)
    × (dynamic_section elf ≡ Some tables.dynamic)
TablesGive elf (Err fault) = first_fault (front_checks elf) ≡ Some fault

-- what is kept of a shared object of this name with these symbols
unfoldable pub summary_with : List ℕ → List Global → InputSummary
summary_with soname globals = record {
  kind = kind.Shared;
  soname = soname;
  exec_stack = false;
  pieces = [];
  globals = globals;
  groups = [];
}
