use Rattle.std.proofs.Common.{◌≡◌, ◌++◌, None, drop}
use Rattle.lk_resolve.specs.RowFaults.{doubled_on}
use Rattle.lk_resolve.proofs.definition_faults.note_doubled.Given as goal

abbrev pub invariant-loop-contribution : goal.invariant-loop-contribution
invariant-loop-contribution l = l.faults ++ doubled_on l.paths l.name l.first (drop l.contribution-index l.list) ≡ l.initial.faults ++ doubled_on l.paths l.name None l.list
