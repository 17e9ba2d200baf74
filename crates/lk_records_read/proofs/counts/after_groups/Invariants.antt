use Rattle.std.specs.Prelude.{◌≡◌, ◌-◌}
use Rattle.lk_records_read.specs.CountsRead.{after_groups}
use Rattle.lk_records_read.proofs.counts.after_groups.Given as goal

abbrev pub invariant-loop-k : goal.invariant-loop-k
invariant-loop-k l = after_groups l.left (l.count - l.k) l.rest ≡ after_groups l.left l.count l.bytes
