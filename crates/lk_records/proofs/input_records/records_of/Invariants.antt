use Rattle.std.proofs.Common.{◌≡◌, ◌++◌, drop}
use Rattle.lk_records.specs.InputRecords.{records_with}
use Rattle.lk_records.proofs.input_records.records_of.Given as goal

-- the records made so far, followed by those of the inputs that are left, are all records
abbrev pub invariant-loop-n : goal.invariant-loop-n
invariant-loop-n l =
    l.records ++ records_with (drop l.n l.names) (drop l.n l.occurrences) (drop l.n l.marks) (drop l.n l.summaries) ≡ records_with l.names l.occurrences l.marks l.summaries
