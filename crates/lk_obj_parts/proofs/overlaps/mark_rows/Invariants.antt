use Rattle.std.specs.Prelude.{◌≡◌, drop, true}
use Rattle.lk_obj_parts.specs.FieldMarks.{fields_painted, overlap_marked, sites_of}
use Rattle.lk_obj_parts.proofs.overlaps.mark_rows.Given as goal

abbrev pub invariant-loop-row : goal.invariant-loop-row
invariant-loop-row l = record {
  fault : overlap_marked l.marks (sites_of l.bytes (drop l.row-index l.rows)) ≡ overlap_marked l.initial.marks (sites_of l.bytes l.rows);
  marked : fields_painted true l.marks (sites_of l.bytes (drop l.row-index l.rows)) ≡ fields_painted true l.initial.marks (sites_of l.bytes l.rows);
}
