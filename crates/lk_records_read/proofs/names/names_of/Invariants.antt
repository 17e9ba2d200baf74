use Rattle.std.specs.Prelude.{◌≡◌, ◌-◌, []}
use Rattle.lk_records_read.specs.NameRecords.{names_among}
use Rattle.lk_records_read.proofs.names.names_of.Given as goal

abbrev pub invariant-loop-k : goal.invariant-loop-k
invariant-loop-k l =
    names_among l.strtab l.counts.inputs l.counts.references l.names (l.count - l.k) l.cursor
    ≡ names_among l.strtab l.counts.inputs l.counts.references [] l.count l.fn.cursor
