use Rattle.std.proofs.Common.{subst, sym, ◌∙◌}
use Rattle.lk_obj_read.specs.ReadObjects.{ArePartsOf}
use Rattle.lk_summary.specs.Readings.{ReadGives}
use Rattle.lk_obj_read.proofs.ObjectFaults.{checks_reported}
use Rattle.lk_obj_read.proofs.object_checks.sound_parts.Goals as goal

pub returns-in-Ok : goal.returns-in-Ok
returns-in-Ok c =
    subst (λ reported. ReadGives reported (ArePartsOf c.args.bytes.now) c.checked_parts.result)
    (sym (checks_reported c.args.bytes.now c.in_default.field-0 (sym c.kind_of.ensures ∙ c.in_default.is)))
    c.checked_parts.ensures
