use Rattle.lk_law_placement.proofs.PiecesLawful as lawful
use Rattle.lk_law_placement.proofs.laws.full_placement_is_lawful.Goals as goal

pub returns-clause-pieces : goal.returns-clause-pieces
returns-clause-pieces c = lawful.sound_is_lawful

pub returns-clause-inputs : goal.returns-clause-inputs
returns-clause-inputs c = lawful.inputs_are_lawful

pub returns-clause-command : goal.returns-clause-command
returns-clause-command c = lawful.command_is_lawful
