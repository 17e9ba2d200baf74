-- This project's own: what is answered of the words of a link as far as its resolution: by the grammar, then the number
-- of inputs, then inputs that are refused, then the resolution of the added inputs.
use Rattle.std.specs.Prelude.{◌≡◌, ℕ, List, Option, Some, None, IsSome, Result, Ok, Err}
use Rattle.lk_report.specs.FileMap.{FileMap}
use Rattle.lk_report.specs.declared.statuses.Status.{Status}
use Rattle.lk_report.specs.declared.statuses.Status.TheVariants as status
use Rattle.lk_model.specs.declared.commands.Command.{Command}
use Rattle.lk_model.specs.Finding.{Found}
use Rattle.lk_model.specs.Grammar.{grammar}
use Rattle.lk_model.specs.Inputs.{inputs_of}
use Rattle.lk_outside.specs.FilesState.{FilesState}
use Rattle.lk_resolve.specs.Given.{found_in}
use Rattle.lk_resolve.specs.Settling.{SettleGives, ResolutionValue}
use Rattle.lk_resolve.specs.declared.settle_faults.SettleFault.TheVariants as settle
use Rattle.lk_inputs.specs.LookUps.{inputs_limit}
use Rattle.lk_inputs.specs.Refusals.{inputs_refusal}

-- the resolution, or the faults of names, or the limit on their number; a failed read may be in its place
abbrev pub ResolvesAs : Found → Result ResolutionValue Status → Type 0
ResolvesAs found (Ok resolution) = SettleGives found (Ok resolution)
ResolvesAs found (Err (status.LinkError faults)) = SettleGives found (Err (settle.Faults faults))
ResolvesAs found (Err (status.Limit l)) = SettleGives found (Err (settle.Limit l))
ResolvesAs found (Err (status.ReadFault path)) = Unit {0}
ResolvesAs found (Err status.NoMemory) = Unit {0}
ResolvesAs found (Err _) = ⊥

-- this status is reported, or a failed read or out of memory in its place
abbrev pub IsReported : Status → Result ResolutionValue Status → Type 0
IsReported due (Ok resolution) = ⊥
IsReported due (Err (status.ReadFault path)) = Unit {0}
IsReported due (Err status.NoMemory) = Unit {0}
IsReported due (Err s) = s ≡ due

-- this status is reported before anything of the outside is asked for, or out of memory
abbrev pub IsFirstRefusal : Status → Result ResolutionValue Status → Type 0
IsFirstRefusal due (Ok resolution) = ⊥
IsFirstRefusal due (Err status.NoMemory) = Unit {0}
IsFirstRefusal due (Err s) = s ≡ due

-- the inputs of a command as far as resolution, where this is why they are not resolved
abbrev pub InputsResolve : Option Status → Command → FileMap → Result ResolutionValue Status → Type 0
InputsResolve (Some due) command there result = IsReported due result
InputsResolve None command there result = ResolvesAs (found_in command.options.entry (inputs_of command there)) result

-- the same where this is the limit on their number
abbrev pub CommandResolves : Option Status → Command → FileMap → Result ResolutionValue Status → Type 0
CommandResolves (Some due) command there result = IsFirstRefusal due result
CommandResolves None command there result = InputsResolve (inputs_refusal command there) command there result

-- what is answered of a command, and of words
abbrev pub CommandGives : Command → FileMap → Result ResolutionValue Status → Type 0
CommandGives command there result = CommandResolves (inputs_limit command) command there result

abbrev pub WordsGive : List (List ℕ) → FileMap → Result ResolutionValue Status → Type 0
WordsGive words there result = elim (grammar words) [ Err u ↦ IsFirstRefusal (status.Usage u) result | Ok command ↦ CommandGives command there result ]

-- words that are refused, and too many inputs, are reported before anything is asked of the files
abbrev pub WordsFirst : List (List ℕ) → FilesState → FilesState → Type 0
WordsFirst words old new = elim (grammar words) [ Err u ↦ new ≡ old | Ok command ↦ IsSome (inputs_limit command) → new ≡ old ]
