use Rattle.lk_report.specs.Texts.{fault_text}
use Rattle.lk_report.proofs.PartByPart.{◌▸◌}
use Rattle.lk_report.proofs.fault_texts.say_unsupported.Goals as goal

pub returns : goal.returns
unfolding fault_text
returns g c = c.say_numbered-progress.ensures ▸ c.say_bytes-progress.ensures ▸ c.say_site.ensures
