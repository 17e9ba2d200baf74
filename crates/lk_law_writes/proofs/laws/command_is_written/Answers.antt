use Rattle.lk_law_writes.proofs.FullWritten as full
use Rattle.lk_law_writes.proofs.laws.command_is_written.Goals as goal

pub returns-clause-inputs : goal.returns-clause-inputs
returns-clause-inputs c = full.inputs_are_layable

pub returns-clause-command : goal.returns-clause-command
returns-clause-command c = full.command_is_written
