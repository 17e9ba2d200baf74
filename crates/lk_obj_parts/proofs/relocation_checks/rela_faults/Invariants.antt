use Rattle.std.specs.Prelude.{◌≡◌, drop}
use Rattle.lk_obj_parts.specs.ElfViews.{elf_from}
use Rattle.lk_obj_parts.specs.RelocationParts.{rela_row_checks, rows_fault}
use Rattle.lk_obj_parts.proofs.relocation_checks.rela_faults.Given as goal

abbrev pub invariant-loop-i : goal.invariant-loop-i
invariant-loop-i l =
    rows_fault (rela_row_checks (elf_from l.bytes l.header l.sections l.symbols)) l.i (drop l.i l.sections)
    ≡ rows_fault (rela_row_checks (elf_from l.bytes l.header l.sections l.symbols)) 1 (drop 1 l.sections)
