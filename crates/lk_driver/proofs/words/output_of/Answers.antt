use Rattle.lk_driver.proofs.OuterWords.{output_reported}
use Rattle.lk_driver.proofs.words.output_of.Goals as goal

-- the output that words name, by what they are
pub returns : goal.returns
returns c = output_reported c.args.words.now c.command_of-read.result c.output_by.result c.command_of-read.ensures.command c.output_by.ensures
