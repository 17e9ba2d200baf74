use Rattle.std.specs.Prelude.{◌≡◌, drop}
use Rattle.lk_symbol_values.specs.InputSymbols.{rise_from}
use Rattle.lk_symbol_values.proofs.input_symbols.rise.Given as goal

abbrev pub invariant-loop-global : goal.invariant-loop-global
invariant-loop-global l = rise_from l.least (drop l.global-index l.globals) ≡ rise_from 0 l.globals
