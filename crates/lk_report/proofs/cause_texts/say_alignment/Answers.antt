use Rattle.lk_report.specs.Texts.{cause_text}
use Rattle.lk_report.proofs.PartByPart.{◌▸◌}
use Rattle.lk_report.proofs.cause_texts.say_alignment.Goals as goal

pub returns : goal.returns
unfolding cause_text
returns g c =
    c.say_named-progress.ensures ▸ c.say_bytes-progress.ensures ▸ c.say_decimal-progress.ensures
    ▸ c.say_bytes-progress-2.ensures ▸ c.say_decimal-progress-2.ensures ▸ c.say_bytes.ensures
