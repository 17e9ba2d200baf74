use Rattle.lk_report.specs.Texts.{input_fault_text}
use Rattle.lk_report.proofs.PartByPart.{◌▸◌}
use Rattle.lk_report.proofs.fault_texts.say_bad_rela.Goals as goal

pub returns : goal.returns
unfolding input_fault_text
returns g c = c.say_numbered-progress.ensures ▸ c.say_bytes-progress.ensures ▸ c.say_decimal.ensures
