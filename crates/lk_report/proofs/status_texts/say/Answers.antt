use Rattle.lk_report.proofs.PartByPart.{reported}
use Rattle.lk_report.proofs.status_texts.say.Goals as goal

pub returns : goal.returns
returns g c = reported _ _ _ _ c.say_status-end.ensures
