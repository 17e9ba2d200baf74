use Rattle.std.proofs.Common.{◌≡◌, ◌+◌, ◌-◌}
use Rattle.lk_obj_parts.specs.FieldMarks.{is_free}
use Rattle.lk_obj_parts.proofs.overlaps.is_free.Given as goal

abbrev pub invariant-loop-k : goal.invariant-loop-k
invariant-loop-k l = is_free l.marks l.k (l.at + l.width - l.k) ≡ is_free l.marks l.at l.width
