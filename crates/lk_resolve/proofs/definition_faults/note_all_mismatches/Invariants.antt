use Rattle.std.proofs.Common.{◌≡◌, ◌++◌, flat_map, drop}
use Rattle.lk_resolve.specs.RowFaults.{mismatched_in}
use Rattle.lk_resolve.proofs.definition_faults.note_all_mismatches.Given as goal

abbrev pub invariant-loop-number : goal.invariant-loop-number
invariant-loop-number l = l.faults ++ flat_map mismatched_in (drop l.number l.names) ≡ l.initial.faults ++ flat_map mismatched_in l.names
