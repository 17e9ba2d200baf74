use Rattle.lk_report.specs.Texts.{fault_text}
use Rattle.lk_report.proofs.PartByPart.{◌▸◌}
use Rattle.lk_report.proofs.fault_texts.say_multiple.Goals as goal

pub returns : goal.returns
unfolding fault_text
returns g c =
    c.say_named-progress.ensures ▸ c.say_bytes-progress.ensures ▸ c.say_name-progress.ensures
    ▸ c.say_bytes-progress-2.ensures ▸ c.say_name.ensures
