use Rattle.std.proofs.Common.{sym, ◌∙◌}
use Rattle.lk_obj_parts.specs.ElfViews.{elf_from}
use Rattle.lk_obj_parts.proofs.EntryFaults.{entries_fault_reported, no_entry_fault}
use Rattle.lk_obj_parts.proofs.Headers.{section_reported}
use Rattle.lk_obj_parts.proofs.relocation_checks.rela_section_fault.Goals as goal

pub returns-in_default-entries_fault : goal.returns-in_default-entries_fault
returns-in_default-entries_fault c =
    sym
    (no_entry_fault
    (elf_from c.args.bytes.now c.args.header.now c.args.sections.now c.args.symbols.now)
    c.args.n
    c.args.section.now
    c.in-Some-header_at.target.now
    (sym c.in_default.ensures)
    (section_reported
    (elf_from c.args.bytes.now c.args.header.now c.args.sections.now c.args.symbols.now)
    c.args.section.now.sh_info
    ∙ sym c.in-Some-header_at.ensures)
    (sym c.in_default-entries_fault.ensures))

pub returns : goal.returns
returns c =
    c.in-Some-entries_fault.ensures
    ∙ sym
    (entries_fault_reported
    (elf_from c.args.bytes.now c.args.header.now c.args.sections.now c.args.symbols.now)
    c.args.n
    c.args.section.now
    c.in-Some-header_at.target.now
    (sym c.in_default.ensures)
    (sym (c.if-not-is_piece_in.ensures c.args.symbols.now))
    (section_reported
    (elf_from c.args.bytes.now c.args.header.now c.args.sections.now c.args.symbols.now)
    c.args.section.now.sh_info
    ∙ sym c.in-Some-header_at.ensures))
