use Rattle.std.proofs.Common.{rules, ◌≡◌, sym, ◌∙◌, Some}
use Rattle.lk_obj_parts.specs.ElfViews.{elf_from}
use Rattle.lk_obj_parts.specs.SymbolTables.{symbols_at}
use Rattle.lk_obj_parts.proofs.NamedGroups.{name_reported}
use Rattle.lk_obj_parts.proofs.signatures.symbol_name.Goals as goal

pub returns-in-Some : goal.returns-in-Some
returns-in-Some c header =
    let there : Some c.in-Some.table ≡ symbols_at c.args.sections.now = search rules in
    c.entry_name.ensures header
    ∙ sym (name_reported (elf_from c.args.bytes.now header c.args.sections.now c.args.symbols.now) c.args.k c.in-Some.table there)
