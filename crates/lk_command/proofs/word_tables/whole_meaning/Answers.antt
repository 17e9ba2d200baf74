use Rattle.lk_model.specs.Grammar.{whole_words}
use Rattle.lk_command.proofs.word_tables.whole_meaning.Goals as goal

pub returns : goal.returns
unfolding whole_words
returns c = c.row_of.ensures
