use Rattle.lk_report.specs.Texts.{site_text}
use Rattle.lk_report.proofs.PartByPart.{◌▸◌}
use Rattle.lk_report.proofs.fault_texts.say_site.Goals as goal

pub returns : goal.returns
unfolding site_text
returns g c =
    c.say_name-progress.ensures ▸ c.say_bytes-progress.ensures ▸ c.say_decimal-progress.ensures
    ▸ c.say_bytes-progress-2.ensures ▸ c.say_hex.ensures
