use Rattle.std.specs.Prelude.{◌≡◌, ◌-◌, false}
use Rattle.lk_obj_parts.specs.FieldMarks.{fields_painted, sites_from}
use Rattle.lk_obj_parts.proofs.overlaps.clear_fields.Given as goal

abbrev pub invariant-loop-k : goal.invariant-loop-k
invariant-loop-k l =
    fields_painted false l.marks (sites_from l.bytes l.n l.section l.k (l.entries - l.k))
    ≡ fields_painted false l.initial.marks (sites_from l.bytes l.n l.section 0 l.entries)
