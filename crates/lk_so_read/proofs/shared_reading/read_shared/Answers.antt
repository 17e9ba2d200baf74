use Rattle.std.proofs.Common.{◌≡◌, ap, subst, sym, ◌∙◌}
use Rattle.lk_model.specs.Kinds.{kind_of}
use Rattle.lk_model.specs.Elf.{elf_of}
use Rattle.lk_model.specs.SharedObjects.{shared_summary_in}
use Rattle.lk_summary.specs.Readings.{ReadGives}
use Rattle.lk_so_read.proofs.SharedFaults.{checks_reported}
use Rattle.lk_so_read.proofs.shared_reading.read_shared.Goals as goal

pub returns-in-Ok : goal.returns-in-Ok
returns-in-Ok c =
    subst
    (λ fault. ReadGives fault (λ summary. summary ≡ shared_summary_in c.args.path.now (elf_of c.args.file.now)) c.summary_under.result)
    (sym (checks_reported c.args.file.now c.in_default.field-0 (ap kind_of (sym c.as_slice.ensures) ∙ sym c.kind_of.ensures ∙ c.in_default.is)))
    c.summary_under.ensures
