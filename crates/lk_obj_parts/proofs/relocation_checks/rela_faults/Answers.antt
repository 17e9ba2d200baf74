use Rattle.std.proofs.Common.{sym, ◌∙◌}
use Rattle.lk_obj_parts.specs.ElfViews.{elf_from}
use Rattle.lk_obj_parts.specs.RelocationParts.{rela_row_checks}
use Rattle.lk_obj_parts.proofs.RowFaults.{no_row_here, rela_rows, row_here}
use Rattle.lk_obj_parts.proofs.relocation_checks.rela_faults.Goals as goal

pub returns-in-Some-clause-fault : goal.returns-in-Some-clause-fault
returns-in-Some-clause-fault c =
    sym
    (row_here
    (rela_row_checks (elf_from c.args.bytes.now c.args.header.now c.args.sections.now c.args.symbols.now))
    c.loop-i.i
    c.args.sections.now
    _
    c.in-Some.fault
    c.loop-i-test.true
    (sym c.in-Some.ensures))
    ∙ c.loop-i.invariant
    ∙ rela_rows (elf_from c.args.bytes.now c.args.header.now c.args.sections.now c.args.symbols.now)

pub loop-i-preserved : goal.loop-i-preserved
loop-i-preserved c =
    sym
    (no_row_here
    (rela_row_checks (elf_from c.args.bytes.now c.args.header.now c.args.sections.now c.args.symbols.now))
    c.loop-i.i
    c.args.sections.now
    _
    c.loop-i-test.true
    (sym c.in_default.ensures))
    ∙ c.loop-i.invariant
