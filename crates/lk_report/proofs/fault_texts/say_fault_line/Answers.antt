use Rattle.lk_report.specs.Texts.{fault_line}
use Rattle.lk_report.proofs.PartByPart.{◌▸◌}
use Rattle.lk_report.proofs.fault_texts.say_fault_line.Goals as goal

pub returns : goal.returns
unfolding fault_line
returns g c = c.say_bytes-progress.ensures ▸ c.say_fault-progress.ensures ▸ c.say_bytes.ensures
