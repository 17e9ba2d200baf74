use Rattle.lk_relocate.specs.NumbersOfSymbols.{AreNumbersOf}
use Rattle.lk_relocate.proofs.numbers_of_symbols.learn_symbols.Given as goal

abbrev pub invariant-loop-k : goal.invariant-loop-k
invariant-loop-k l = AreNumbersOf l.values l.input l.object l.numbers_by_symbol.items
