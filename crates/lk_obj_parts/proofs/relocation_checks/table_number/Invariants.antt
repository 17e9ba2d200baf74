use Rattle.std.specs.Prelude.{◌≡◌, drop}
use Rattle.lk_obj_parts.specs.RelocationParts.{table_number}
use Rattle.lk_obj_parts.proofs.relocation_checks.table_number.Given as goal

abbrev pub invariant-loop-i : goal.invariant-loop-i
invariant-loop-i l = table_number l.i (drop l.i l.sections) ≡ table_number 1 (drop 1 l.sections)
