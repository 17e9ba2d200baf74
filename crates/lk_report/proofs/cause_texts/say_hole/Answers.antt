use Rattle.lk_report.specs.Texts.{cause_text}
use Rattle.lk_report.proofs.PartByPart.{◌▸◌}
use Rattle.lk_report.proofs.cause_texts.say_hole.Goals as goal

pub returns : goal.returns
unfolding cause_text
returns g c =
    c.say_bytes-progress.ensures ▸ c.say_hex-progress.ensures ▸ c.say_bytes-progress-2.ensures
    ▸ c.say_name.ensures
