use Rattle.lk_report.proofs.PartByPart.{◌▸◌}
use Rattle.lk_report.proofs.saying.say_named.Goals as goal

pub returns : goal.returns
returns g c = c.say_bytes-progress.ensures ▸ c.say_name.ensures
