use Rattle.std.proofs.Common.{ap}
use Rattle.lk_model.specs.Checks.{first_fault}
use Rattle.lk_model.specs.ObjectChecks.{object_checks}
use Rattle.lk_obj_read.proofs.object_checks.checked_parts.Goals as goal

pub returns-in-Some : goal.returns-in-Some
returns-in-Some c = let whole = ap (λ elf. first_fault (object_checks elf)) c.in_ok-parts.ensures.elf in cc c.in_ok-fault.ensures

pub returns-in-None : goal.returns-in-None
returns-in-None c =
    let whole = ap (λ elf. first_fault (object_checks elf)) c.in_ok-parts.ensures.elf in
    (cc c.in_ok-fault.ensures, c.in_ok-parts.ensures)
