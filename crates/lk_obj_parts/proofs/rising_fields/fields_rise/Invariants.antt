use Rattle.std.specs.Prelude.{◌≡◌, ◌+◌, ◌-◌}
use Rattle.lk_obj_parts.specs.RisingFields.{entries_rise}
use Rattle.lk_obj_parts.proofs.rising_fields.fields_rise.Given as goal

abbrev pub invariant-loop-k : goal.invariant-loop-k
invariant-loop-k l = entries_rise l.bytes l.section (l.earlier + l.width) l.k (l.entries - l.k) ≡ entries_rise l.bytes l.section 0 0 l.entries
