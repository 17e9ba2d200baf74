use Rattle.std.specs.Prelude.{◌≡◌, ◌-◌, true}
use Rattle.lk_obj_parts.specs.FieldMarks.{fields_painted, overlap_marked, sites_from}
use Rattle.lk_obj_parts.proofs.overlaps.mark_fields.Given as goal

abbrev pub invariant-loop-k : goal.invariant-loop-k
invariant-loop-k l = record {
  fault : overlap_marked l.marks (sites_from l.bytes l.n l.section l.k (l.entries - l.k)) ≡ overlap_marked l.initial.marks (sites_from l.bytes l.n l.section 0 l.entries);
  marked : fields_painted true l.marks (sites_from l.bytes l.n l.section l.k (l.entries - l.k)) ≡ fields_painted true l.initial.marks (sites_from l.bytes l.n l.section 0 l.entries);
}
