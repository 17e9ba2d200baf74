use Rattle.std.proofs.Common.{◌≡◌, ◌+◌, ◌-◌}
use Rattle.lk_obj_parts.specs.FieldMarks.{painted}
use Rattle.lk_obj_parts.proofs.overlaps.paint.Given as goal

abbrev pub invariant-loop-k : goal.invariant-loop-k
invariant-loop-k l = painted l.mark l.marks l.k (l.at + l.width - l.k) ≡ painted l.mark l.initial.marks l.at l.width
