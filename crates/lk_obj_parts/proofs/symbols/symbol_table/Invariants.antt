use Rattle.std.specs.Prelude.{◌≡◌, drop, find}
use Rattle.std.specs.List.{enumerate_from}
use Rattle.lk_obj_parts.specs.SymbolParts.{is_table}
use Rattle.lk_obj_parts.proofs.symbols.symbol_table.Given as goal

abbrev pub invariant-loop-n : goal.invariant-loop-n
invariant-loop-n l = find is_table (enumerate_from l.n (drop l.n l.sections)) ≡ find is_table (enumerate_from 1 (drop 1 l.sections))
