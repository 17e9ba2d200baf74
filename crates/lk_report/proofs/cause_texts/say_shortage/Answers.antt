use Rattle.lk_report.proofs.PartByPart.{◌▸◌}
use Rattle.lk_report.proofs.cause_texts.say_shortage.Goals as goal

pub returns : goal.returns
returns g c =
    c.say_named-progress.ensures ▸ c.say_bytes-progress.ensures ▸ c.say_hex-progress.ensures
    ▸ c.say_bytes-progress-2.ensures ▸ c.say_hex.ensures
