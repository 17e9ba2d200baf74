use Rattle.std.proofs.Common.{sym}
use Rattle.lk_relocate.proofs.object_sections.ObjectSection.symbol_numbers.Goals as goal

pub returns-in-Some : goal.returns-in-Some
returns-in-Some c = c.requires.tables_are.numbers_by_symbol_are c.args.symbol c.in-Some.symbol_numbers (sym c.in-Some.ensures)
