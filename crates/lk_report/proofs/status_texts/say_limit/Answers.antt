use Rattle.lk_report.specs.Texts.{text_of}
use Rattle.lk_report.proofs.PartByPart.{◌▸◌}
use Rattle.lk_report.proofs.status_texts.say_limit.Goals as goal

pub returns : goal.returns
unfolding text_of
returns g c =
    c.say_bytes-progress.ensures ▸ c.say_limit_kind-progress.ensures ▸ c.say_bytes-progress-2.ensures
    ▸ c.say_decimal-progress.ensures ▸ c.say_bytes.ensures
