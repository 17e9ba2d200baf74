use Rattle.lk_relocate.proofs.SymbolNumbersReported.{local_numbers_there, name_numbers_there}
use Rattle.lk_relocate.proofs.numbers_of_symbols.unadded_numbers.Goals as goal

pub returns-in-Some : goal.returns-in-Some
returns-in-Some c = λ r link o.
    name_numbers_there c.args.values.now c.args.input c.args.object.now c.args.symbol r link o
    c.in-Some.global.now c.name_number-name.result c.name_numbers.result c.in-Some.ensures c.name_number-name.ensures c.name_numbers.ensures.symbol_numbers c.name_numbers.ensures.exact

pub returns-in-None : goal.returns-in-None
returns-in-None c = λ r link o.
    local_numbers_there c.args.values.now c.args.input c.args.object.now c.args.symbol r link o
    c.local-local.result c.local_numbers.result c.in-None.ensures c.local-local.ensures c.local_numbers.ensures.symbol_numbers c.local_numbers.ensures.exact
