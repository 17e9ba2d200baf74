-- This project's own: the command or the fault of words.
use Rattle.std.specs.Prelude.{◌≡◌, ℕ, List, Result, Ok, Err}
use Rattle.lk_model.specs.declared.commands.Command.{Command}
use Rattle.lk_model.specs.Grammar.{grammar}
use Rattle.lk_command.specs.declared.command_faults.CommandFault.{CommandFault}
use Rattle.lk_command.specs.declared.command_faults.CommandFault.TheVariants as faults

-- the command is the one that the grammar has for the words, the fault of usage is their first; out of memory may come
-- at any words
abbrev pub ParseGives : List (List ℕ) → Result Command CommandFault → Type 0
ParseGives words (Ok command) = grammar words ≡ Ok command
ParseGives words (Err (faults.Usage fault)) = grammar words ≡ Err fault
ParseGives words (Err faults.NoMemory) = Unit {0}
