use Rattle.std.specs.Prelude.{◌≡◌, drop}
use Rattle.lk_obj_parts.specs.SymbolTables.{symbols_from}
use Rattle.lk_obj_parts.proofs.signatures.find_symbols.Given as goal

abbrev pub invariant-loop-i : goal.invariant-loop-i
invariant-loop-i l = symbols_from l.i (drop l.i l.sections) ≡ symbols_from 1 (drop 1 l.sections)
