use Rattle.std.proofs.Common.{◌≡◌, ◌++◌, flat_map, drop}
use Rattle.lk_resolve.specs.RowFaults.{doubled_in}
use Rattle.lk_resolve.proofs.definition_faults.note_all_doubled.Given as goal

abbrev pub invariant-loop-number : goal.invariant-loop-number
invariant-loop-number l = l.faults ++ flat_map (doubled_in l.paths) (drop l.number l.names) ≡ l.initial.faults ++ flat_map (doubled_in l.paths) l.names
