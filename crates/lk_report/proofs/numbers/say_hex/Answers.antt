use Rattle.lk_report.specs.Texts.{hex_text}
use Rattle.lk_report.proofs.PartByPart.{◌▸◌}
use Rattle.lk_report.proofs.numbers.say_hex.Goals as goal

pub returns : goal.returns
unfolding hex_text
returns g c = c.say_bytes-progress.ensures ▸ c.say_digits.ensures
