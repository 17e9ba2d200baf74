use Rattle.std.specs.Prelude.{◌≡◌, drop}
use Rattle.lk_obj_read.specs.RelocatedSections.{marked_by}
use Rattle.lk_obj_read.proofs.relocation_marks.mark_targets.Given as goal

abbrev pub invariant-loop-i : goal.invariant-loop-i
invariant-loop-i l = marked_by l.bytes l.marks (drop l.i l.sections) ≡ marked_by l.bytes l.fn.marks (drop 1 l.sections)
