use Rattle.std.specs.Prelude.{◌≡◌, drop}
use Rattle.lk_obj_parts.specs.RisingFields.{targets_rise}
use Rattle.lk_obj_parts.proofs.rising_fields.targets_rise.Given as goal

abbrev pub invariant-loop-i : goal.invariant-loop-i
invariant-loop-i l = targets_rise l.least (drop l.i l.sections) ≡ targets_rise 0 (drop 1 l.sections)
