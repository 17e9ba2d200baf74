use Rattle.std.proofs.Common.{ap, sym, ◌∙◌}
use Rattle.lk_symtab.specs.NamesOfSymbols.{name_of_symbol}
use Rattle.lk_relocate.proofs.SymbolNumbersReported.{added_numbers_there}
use Rattle.lk_relocate.proofs.numbers_of_symbols.find_numbers.Goals as goal

-- a symbol that was added
pub returns-in-Some : goal.returns-in-Some
returns-in-Some c = λ r link o.
    added_numbers_there c.args.values.now c.args.input c.args.object.now c.args.symbol r link o
    c.in-Some.name c.name_numbers.result c.in-Some.ensures c.name_numbers.ensures.symbol_numbers c.name_numbers.ensures.exact
