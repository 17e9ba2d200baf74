use Rattle.lk_report.specs.Texts.{text_of}
use Rattle.lk_report.proofs.PartByPart.{◌▸◌}
use Rattle.lk_report.proofs.status_texts.say_done.Goals as goal

pub returns : goal.returns
unfolding text_of
returns g c = c.say_outcome-progress.ensures ▸ c.say_bytes.ensures
