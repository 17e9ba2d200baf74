-- The checks of relocations in parts (gABI "Relocation"): those of the header of a section of relocations, those of its
-- entries on a piece, and section after section.
use Rattle.std.specs.Prelude.{ℕ, ◌==◌, ◌%◌, Bool, false, not, cond, List, [], ◌∷◌, flat_map, nat_lt, Option, Some, None, option_map, find}
use Rattle.std.specs.List.{enumerate_from}
use Rattle.lk_elf.specs.Numbers.{sht_nobits, sht_rela, sht_symtab, rela_size}
use Rattle.lk_elf.specs.declared.relocation.Rela.{Rela}
use Rattle.lk_elf.specs.declared.section_header.Shdr.{Shdr}
use Rattle.lk_report.specs.declared.faults.InputFault.{InputFault}
use Rattle.lk_report.specs.declared.faults.InputFault.TheVariants.{BadTable, BadRela}
use Rattle.lk_model.specs.Checks.{first_fault}
use Rattle.lk_model.specs.ObjectChecks.{is_outside, is_section, is_symbol_table, rela_section_checks}
use Rattle.lk_model.specs.Pieces.{is_piece}
use Rattle.lk_model.specs.Views.{Elf}
use Rattle.lk_elf.specs.RelocationInfo.{r_symbol_of}
use Rattle.lk_obj_parts.specs.RelocationEntries.{entries_from}

-- a section with this header and this name is a piece
abbrev pub is_piece_named : Option Shdr → Option (List ℕ) → Bool
is_piece_named None name = false
is_piece_named (Some header) None = false
is_piece_named (Some header) (Some name) = is_piece name header.sh_type header.sh_flags

-- the number of the first symbol table among these headers, the first of which has this number
abbrev pub table_number : ℕ → List Shdr → Option ℕ
table_number n headers =
    option_map (λ (row : ℕ × Shdr). row.0) (find (λ (row : ℕ × Shdr). row.1.sh_type == sht_symtab) (enumerate_from n headers))

-- the checks of the header of a section of relocations
unfoldable pub head_checks : Elf → ℕ → Shdr → List (Bool × InputFault)
head_checks elf n header =
    (not (header.sh_entsize == rela_size), BadTable n)
    ∷ (not (header.sh_size % rela_size == 0), BadTable n)
    ∷ (not (is_symbol_table elf header.sh_link), BadTable n)
    ∷ (not (is_section elf header.sh_info), BadTable n)
    ∷ []

-- the checks of a relocation of section n on this target, in a file of so many symbols
unfoldable pub entry_checks_among : ℕ → ℕ → Shdr → ℕ × Rela → List (Bool × InputFault)
entry_checks_among count n target row =
    (not (nat_lt (r_symbol_of row.1) count), BadRela n row.0)
    ∷ (is_outside target.sh_size row.1, BadRela n row.0)
    ∷ (target.sh_type == sht_nobits, BadRela n row.0)
    ∷ []

-- the first fault of so many entries from this one on
abbrev pub entry_faults : List ℕ → Shdr → ℕ → ℕ → Shdr → ℕ → ℕ → Option InputFault
entry_faults bytes header count n target k m = first_fault (flat_map (entry_checks_among count n target) (entries_from bytes header k m))

-- the checks of a section, where it holds relocations
abbrev pub rela_row_checks : Elf → ℕ × Shdr → List (Bool × InputFault)
rela_row_checks elf row = cond (row.1.sh_type == sht_rela) (rela_section_checks elf row) []

-- the first fault of these sections, or what is taken for them, the first of which has this number
abbrev pub rows_fault : {X : Type 0} → (ℕ × X → List (Bool × InputFault)) → ℕ → List X → Option InputFault
rows_fault checks n rows = first_fault (flat_map checks (enumerate_from n rows))
