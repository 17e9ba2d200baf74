use Rattle.lk_records.proofs.OccurrencesCounted.{commands_are_counted}
use Rattle.lk_records.proofs.laws.inputs_of_commands_are_counted.Goals as goal

pub returns : goal.returns
returns c = commands_are_counted
