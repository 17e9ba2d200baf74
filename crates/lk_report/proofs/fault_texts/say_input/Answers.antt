use Rattle.lk_report.specs.Texts.{fault_text}
use Rattle.lk_report.proofs.PartByPart.{◌▸◌}
use Rattle.lk_report.proofs.fault_texts.say_input.Goals as goal

pub returns : goal.returns
unfolding fault_text
returns g c = c.say_name-progress.ensures ▸ c.say_bytes-progress.ensures ▸ c.say_input_fault.ensures
