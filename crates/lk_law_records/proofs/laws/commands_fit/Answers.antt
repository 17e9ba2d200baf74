use Rattle.lk_law_records.proofs.CommandItems.{commands-fit}
use Rattle.lk_law_records.proofs.laws.commands_fit.Goals as goal

pub returns : goal.returns
returns c = commands-fit
