use Rattle.std.proofs.Common.{rules}
use Rattle.lk_law_records.proofs.CommandItems.{commands-fit}
use Rattle.lk_driver.proofs.words.accepted_command.Goals as goal

-- a command whose numbers fit what an image records
pub returns : goal.returns
returns c = record {
  is = c.in_ok-command.ensures.command;
  waits = search rules;
  fits = commands-fit c.args.words.now c.in_ok-command.command c.in_ok-command.ensures.command c.in_ok-command.ensures.few;
}
