use Rattle.std.specs.Prelude.{◌≡◌, drop, false}
use Rattle.lk_obj_parts.specs.FieldMarks.{fields_painted, sites_of}
use Rattle.lk_obj_parts.proofs.overlaps.clear_rows.Given as goal

abbrev pub invariant-loop-row : goal.invariant-loop-row
invariant-loop-row l = fields_painted false l.marks (sites_of l.bytes (drop l.row-index l.rows)) ≡ fields_painted false l.initial.marks (sites_of l.bytes l.rows)
