-- This project's own: the command that words are.
use Rattle.std.specs.Prelude.{◌≡◌, ℕ, List, Result, Ok, Err}
use Rattle.lk_report.specs.declared.statuses.Status.{Status}
use Rattle.lk_report.specs.declared.statuses.Status.TheVariants as status
use Rattle.lk_model.specs.declared.commands.Command.{Command}
use Rattle.lk_model.specs.Grammar.{grammar}

-- the command that words are by the grammar, or their first fault; out of memory may come at any words
abbrev pub IsCommand : List (List ℕ) → Result Command Status → Type 0
IsCommand words (Ok command) = grammar words ≡ Ok command
IsCommand words (Err (status.Usage u)) = grammar words ≡ Err u
IsCommand words (Err status.NoMemory) = Unit {0}
IsCommand words (Err _) = ⊥
