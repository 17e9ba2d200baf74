use Rattle.lk_relocate.proofs.SymbolNumbersReported.{one_more}
use Rattle.lk_relocate.proofs.numbers_of_symbols.learn_symbol.Goals as goal

pub returns : goal.returns
returns c =
    one_more c.args.values.now c.args.input c.args.object.now c.args.numbers_by_symbol.now.items c.note_numbers.new.numbers_by_symbol.items c.args.symbol c.find_numbers-symbol_numbers.result
    c.requires c.find_numbers-symbol_numbers.ensures c.in_ok-note_numbers.ensures
