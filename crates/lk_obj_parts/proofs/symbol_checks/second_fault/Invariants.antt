use Rattle.std.specs.Prelude.{◌≡◌, false, drop}
use Rattle.std.specs.List.{enumerate_from}
use Rattle.lk_obj_parts.specs.SymbolParts.{refused_fault, refused_tables}
use Rattle.lk_obj_parts.proofs.symbol_checks.second_fault.Given as goal

abbrev pub invariant-loop-n : goal.invariant-loop-n
invariant-loop-n l = refused_fault (refused_tables l.seen (enumerate_from l.n (drop l.n l.sections))) ≡ refused_fault (refused_tables false (enumerate_from 1 (drop 1 l.sections)))
