use Rattle.std.specs.Prelude.{◌≡◌, ◌-◌}
use Rattle.lk_records_read.specs.CountsRead.{after_many_inputs}
use Rattle.lk_records_read.proofs.counts.after_many_inputs.Given as goal

abbrev pub invariant-loop-k : goal.invariant-loop-k
invariant-loop-k l = after_many_inputs l.left (l.count - l.k) l.rest ≡ after_many_inputs l.left l.count l.bytes
