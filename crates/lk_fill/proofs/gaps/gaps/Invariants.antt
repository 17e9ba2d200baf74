use Rattle.std.proofs.Common.{◌≡◌, ◌++◌, drop}
use Rattle.lk_fill.specs.Covering.{gaps_from}
use Rattle.lk_fill.proofs.gaps.gaps.Given as goal

abbrev pub invariant-loop-range : goal.invariant-loop-range
invariant-loop-range l = l.holes ++ gaps_from l.at (drop l.range-index l.ranges) l.room ≡ gaps_from 0 l.ranges l.room
