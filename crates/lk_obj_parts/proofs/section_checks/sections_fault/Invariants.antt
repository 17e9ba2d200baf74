use Rattle.std.specs.Prelude.{◌≡◌, [], drop}
use Rattle.lk_obj_parts.specs.ElfViews.{elf_from}
use Rattle.lk_obj_parts.specs.SectionParts.{faults_from}
use Rattle.lk_obj_parts.proofs.section_checks.sections_fault.Given as goal

abbrev pub invariant-loop-i : goal.invariant-loop-i
invariant-loop-i l = faults_from (elf_from l.bytes l.header l.sections []) l.i (drop l.i l.sections) ≡ faults_from (elf_from l.bytes l.header l.sections []) 1 (drop 1 l.sections)
