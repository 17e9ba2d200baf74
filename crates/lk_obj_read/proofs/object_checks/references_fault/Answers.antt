use Rattle.std.proofs.Common.{◌≡◌, IfOk, subst, sym, ◌∙◌}
use Rattle.lk_obj_parts.specs.ElfViews.{elf_from}
use Rattle.lk_obj_read.proofs.ObjectFaults.{groups_end, overlaps_stop}
use Rattle.lk_obj_read.proofs.object_checks.references_fault.Goals as goal

pub returns-in-Some-2 : goal.returns-in-Some-2
returns-in-Some-2 c =
    sym
    (overlaps_stop (elf_from c.args.bytes.now c.args.header.now c.args.sections.now c.args.symbols.now) c.in-Some-2.fault
    (sym c.rela_faults.ensures.fault ∙ c.in_default.is)
    (sym (c.in_ok-fault.ensures c.args.symbols.now) ∙ c.in-Some-2.is))

pub returns : goal.returns
returns c =
    subst (λ x. IfOk c.groups_fault.result (λ fault. fault ≡ x))
    (sym
    (groups_end (elf_from c.args.bytes.now c.args.header.now c.args.sections.now c.args.symbols.now)
    (sym c.rela_faults.ensures.fault ∙ c.in_default.is)
    (sym (c.in_ok-fault.ensures c.args.symbols.now) ∙ c.in_default-2.is)))
    c.groups_fault.ensures
