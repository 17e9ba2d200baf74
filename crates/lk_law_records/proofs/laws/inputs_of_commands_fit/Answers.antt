use Rattle.lk_law_records.proofs.CommandInputs.{inputs-of-commands-fit}
use Rattle.lk_law_records.proofs.laws.inputs_of_commands_fit.Goals as goal

pub returns : goal.returns
returns c = inputs-of-commands-fit
