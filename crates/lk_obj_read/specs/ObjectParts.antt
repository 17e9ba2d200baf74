-- The checks of an object in two halves: its tables of sections and symbols, and what refers to them. One
-- after the other they are the checks of an object.
use Rattle.std.specs.Prelude.{ℕ, Bool, List, [], ◌++◌, flat_map}
use Rattle.lk_elf.specs.declared.section_header.Shdr.{Shdr}
use Rattle.lk_report.specs.declared.faults.InputFault.{InputFault}
use Rattle.lk_model.specs.Elf.{numbered, symbol_table}
use Rattle.lk_model.specs.ObjectChecks.{group_checks_after, overlap_checks, rela_section_checks, rela_sections, section_checks, symbol_checks, symbol_table_checks, table_checks}
use Rattle.lk_model.specs.Objects.{group_sections, is_piece_in}
use Rattle.lk_model.specs.Views.{Elf}

-- the section table, the sections, the symbol table, the symbols
unfoldable pub table_half : Elf → List (Bool × InputFault)
table_half elf =
    table_checks elf
    ++ flat_map (section_checks elf) (numbered elf.sections)
    ++ symbol_table_checks elf (symbol_table elf)
    ++ symbol_checks elf (symbol_table elf)

-- the relocations, their fields, the groups
unfoldable pub reference_half : Elf → List (Bool × InputFault)
reference_half elf =
    flat_map (rela_section_checks elf) (rela_sections elf)
    ++ flat_map (λ (row : ℕ × Shdr). overlap_checks elf (is_piece_in elf row.0) row.0) (numbered elf.sections)
    ++ group_checks_after elf [] (group_sections elf)
