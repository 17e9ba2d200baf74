use Rattle.lk_report.proofs.PartByPart.{◌▸◌}
use Rattle.lk_report.proofs.fault_texts.say_name_at.Goals as goal

pub returns : goal.returns
returns g c = c.say_named-progress.ensures ▸ c.say_bytes-progress.ensures ▸ c.say_site.ensures
