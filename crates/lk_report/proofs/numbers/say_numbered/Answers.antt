use Rattle.lk_report.proofs.PartByPart.{◌▸◌}
use Rattle.lk_report.proofs.numbers.say_numbered.Goals as goal

pub returns : goal.returns
returns g c = c.say_bytes-progress.ensures ▸ c.say_decimal.ensures
