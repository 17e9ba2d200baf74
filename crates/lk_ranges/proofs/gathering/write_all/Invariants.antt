use Rattle.std.proofs.Common.{◌≡◌, drop}
use Rattle.lk_ranges.specs.Stretches.{with_stretches}
use Rattle.lk_ranges.proofs.gathering.write_all.Given as goal

abbrev pub invariant-loop-range : goal.invariant-loop-range
invariant-loop-range l = with_stretches l.file (drop l.range-index l.list) ≡ with_stretches l.fn.file l.list
