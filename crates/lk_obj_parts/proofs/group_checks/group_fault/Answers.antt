use Rattle.std.proofs.Common.{◌∙◌}
use Rattle.lk_obj_parts.specs.ElfViews.{elf_from}
use Rattle.lk_obj_parts.proofs.GroupsMarked.{fault_reported}
use Rattle.lk_obj_parts.proofs.group_checks.group_fault.Goals as goal

pub returns-clause-claimed : goal.returns-clause-claimed
returns-clause-claimed c claimed e =
    c.marked_fault.ensures
    ∙ fault_reported (elf_from c.args.bytes.now c.args.header.now c.args.sections.now c.args.symbols.now) c.args.marks.now claimed c.args.n c.args.section.now e
