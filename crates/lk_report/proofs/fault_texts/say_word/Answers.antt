use Rattle.lk_report.specs.Texts.{word_text}
use Rattle.lk_report.proofs.PartByPart.{◌▸◌}
use Rattle.lk_report.proofs.fault_texts.say_word.Goals as goal

pub returns : goal.returns
unfolding word_text
returns g c = c.say_numbered-progress.ensures ▸ c.say_bytes-progress.ensures ▸ c.say_bytes.ensures
