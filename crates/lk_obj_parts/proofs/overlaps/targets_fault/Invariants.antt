use Rattle.std.specs.Prelude.{◌≡◌, drop}
use Rattle.lk_obj_parts.specs.RelocationParts.{rows_fault}
use Rattle.lk_obj_parts.specs.TargetRows.{list_checks}
use Rattle.lk_obj_parts.proofs.overlaps.targets_fault.Given as goal

abbrev pub invariant-loop-t : goal.invariant-loop-t
invariant-loop-t l = record {
  clear : l.marks ≡ l.initial.marks;
  faults : rows_fault (list_checks l.bytes) l.t (drop l.t l.lists) ≡ rows_fault (list_checks l.bytes) 1 (drop 1 l.lists);
}
