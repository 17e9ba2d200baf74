use Rattle.lk_report.specs.Texts.{outcome_text}
use Rattle.lk_report.proofs.PartByPart.{◌▸◌}
use Rattle.lk_report.proofs.status_texts.say_full_after.Goals as goal

pub returns : goal.returns
unfolding outcome_text
returns g c = c.say_bytes-progress.ensures ▸ c.say_cause.ensures
