use Rattle.lk_report.proofs.PartByPart.{◌▸◌}
use Rattle.lk_report.proofs.fault_texts.say_overflow_at.Goals as goal

pub returns : goal.returns
returns g c = c.say_at-progress.ensures ▸ c.say_bytes-progress.ensures ▸ c.say_hex.ensures
