use Rattle.std.proofs.Common.{sym, ◌∙◌, ap}
use Rattle.lk_obj_parts.specs.RelocationParts.{entry_faults}
use Rattle.lk_obj_parts.proofs.EntryFaults.{entry_here}
use Rattle.lk_obj_parts.proofs.relocation_checks.entries_fault.Goals as goal

pub returns-in-Some : goal.returns-in-Some
returns-in-Some c =
    sym
    (entry_here
    c.args.bytes.now
    c.args.section.now
    c.args.count
    c.args.n
    c.args.target.now
    c.loop-k.k
    c.entry_count-entries.result
    c.entry_at-rela.result
    c.in-Some.fault
    c.loop-k-test.true
    c.entry_at-rela.ensures
    c.in-Some.ensures)
    ∙ c.loop-k.invariant
    ∙ ap (entry_faults c.args.bytes.now c.args.section.now c.args.count c.args.n c.args.target.now 0) c.entry_count-entries.ensures.value
