use Rattle.std.proofs.Common.{◌≡◌, sym, ◌∙◌, ap, slice_get, Some, option_and_then}
use Rattle.std.proofs.lemmas.Option.{slice_get-get_or}
use Rattle.lk_model.specs.Elf.{name_of_symbol}
use Rattle.lk_obj_parts.specs.ElfViews.{elf_from}
use Rattle.lk_obj_parts.proofs.SymbolsUnread.{name_unread}
use Rattle.lk_obj_parts.proofs.signatures.entry_name.Goals as goal

pub returns-in-Some : goal.returns-in-Some
returns-in-Some c header =
    let there : slice_get c.args.symbols.now c.args.k ≡ Some c.in-Some.symbol.now =
    slice_get-get_or c.args.symbols.now c.args.k c.in-Some.symbol.now c.in-Some.ensures.lookup.3.0
    ∙ ap Some (sym c.in-Some.ensures.lookup.1) in
    c.name_at.ensures header
    ∙ sym (name_unread c.args.bytes.now header c.args.sections.now c.args.symbols.now c.args.strings c.in-Some.symbol.now.st_name)
    ∙ ap (option_and_then (name_of_symbol (elf_from c.args.bytes.now header c.args.sections.now c.args.symbols.now) c.args.strings)) (sym there)
