use Rattle.lk_report.specs.Texts.{cause_text}
use Rattle.lk_report.proofs.cause_texts.say_cause.Goals as goal

pub returns-in-NoRoom : goal.returns-in-NoRoom
unfolding cause_text
returns-in-NoRoom g c = rw c.in-NoRoom.is c.say_shortage.ensures
