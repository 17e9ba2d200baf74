use Rattle.std.proofs.Common.{◌≡◌, fold, drop}
use Rattle.lk_symtab.specs.SymbolLaws.{with_own}
use Rattle.lk_resolve.specs.LeftSections.{symbols_in}
use Rattle.lk_resolve.proofs.input_symbols.add_symbols.Given as goal

abbrev pub invariant-loop-symbol : goal.invariant-loop-symbol
invariant-loop-symbol l = fold with_own l.names (symbols_in l.left.keys l.input l.kind (drop l.symbol-index l.symbols)) ≡ fold with_own l.initial.names (symbols_in l.left.keys l.input l.kind l.symbols)
