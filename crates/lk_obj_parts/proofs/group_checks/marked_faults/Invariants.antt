use Rattle.std.specs.Prelude.{◌≡◌, drop}
use Rattle.lk_obj_parts.specs.ElfViews.{elf_from}
use Rattle.lk_obj_parts.specs.GroupMarks.{marked_faults}
use Rattle.lk_obj_parts.proofs.group_checks.marked_faults.Given as goal

abbrev pub invariant-loop-i : goal.invariant-loop-i
invariant-loop-i l =
    marked_faults (elf_from l.bytes l.header l.sections l.symbols) l.marks l.i (drop l.i l.sections)
    ≡ marked_faults (elf_from l.bytes l.header l.sections l.symbols) l.fn.marks 1 (drop 1 l.sections)
