use Rattle.lk_model.specs.Grammar.{beginnings}
use Rattle.lk_command.proofs.word_tables.joined_value.Goals as goal

pub returns : goal.returns
unfolding beginnings
returns c = c.value_of.ensures
