use Rattle.std.proofs.Common.{ap, sym, subst, ◌∙◌, ℕ, List, Err}
use Rattle.std.proofs.lemmas.Result.{err_from_is_err_and}
use Rattle.lk_command.specs.CommandStatuses.{command_status}
use Rattle.lk_command.specs.Parsing.{ParseGives}
use Rattle.lk_command.specs.declared.command_faults.CommandFault.{CommandFault}
use Rattle.lk_command.specs.declared.command_faults.CommandFault.TheVariants as faults
use Rattle.lk_inputs.specs.CommandOfWords.{IsCommand}
use Rattle.lk_inputs.proofs.words.command_of.Goals as goal

refused : (words : List (List ℕ)) (fault : CommandFault) → ParseGives words (Err fault) → IsCommand words (Err (command_status fault))
refused words (faults.Usage u) h = h
refused words faults.NoMemory h = tt

pub returns-in_err-command-clause-command : goal.returns-in_err-command-clause-command
returns-in_err-command-clause-command c =
    let p = err_from_is_err_and c.from_residual.result c.from_residual.ensures.1 in
    subst (IsCommand c.args.words.now) (sym (p.1 ∙ ap (λ s. Err s) p.2)) (refused c.args.words.now c.in_err-command.field-0.0 c.in_err-command.ensures)
