-- This project's own: why the inputs of a command are not resolved, as lk_model has it: inputs that are not
-- there, limits on sizes, a shared input, faults of inputs.
use Rattle.std.specs.Prelude.{◌≡◌, List, map, Option, Some, None, Result, Ok, Err}
use Rattle.lk_report.specs.FileMap.{FileMap}
use Rattle.lk_report.specs.declared.statuses.Status.{Status}
use Rattle.lk_report.specs.declared.statuses.Status.TheVariants as status
use Rattle.lk_model.specs.declared.commands.Command.{Command}
use Rattle.lk_model.specs.Answers.{fault_status, input_faults, shared_waits, size_limit}
use Rattle.lk_model.specs.Inputs.{inputs_of, missing_of}
use Rattle.lk_model.specs.Views.{Input}
use Rattle.lk_model.specs.InputNames.{input_summary}
use Rattle.lk_inputs.specs.declared.inputs.Inputs.{Inputs}
use Rattle.lk_inputs.specs.Named.{files_of}

-- why inputs that are there are not resolved
unfoldable pub files_refusal : List Input → Option Status
files_refusal xs =
    elim (size_limit 0 xs) [
      | Some s ↦ Some s
      | None ↦ elim (shared_waits xs) [ Some s ↦ Some s | None ↦ fault_status (input_faults xs) ]
    ]

-- why the inputs of a command are not resolved
unfoldable pub inputs_refusal : Command → FileMap → Option Status
inputs_refusal command there =
    elim (fault_status (missing_of command there)) [ Some s ↦ Some s | None ↦ files_refusal (inputs_of command there) ]

-- a refusal that is reported, or a failed read or out of memory in its place
abbrev pub IsRefusal : Option Status → Status → Type 0
IsRefusal due (status.ReadFault path) = Unit {0}
IsRefusal due status.NoMemory = Unit {0}
IsRefusal due s = due ≡ Some s

-- these are the files and the summaries of inputs
pub record AreInputs (xs : List Input) (inputs : Inputs) : Type 0 where
  pub files : inputs.files ≡ files_of xs
  pub summaries : inputs.summaries ≡ map input_summary xs

-- what reading the inputs of a command answers, where there are not too many of them
abbrev pub InputsGive : Command → FileMap → Result Inputs Status → Type 0
InputsGive command there (Ok inputs) = (inputs_refusal command there ≡ None) × AreInputs (inputs_of command there) inputs
InputsGive command there (Err s) = IsRefusal (inputs_refusal command there) s

-- the same where it may have too many, which is reported first
abbrev pub CommandInputs : Option Status → Command → FileMap → Result Inputs Status → Type 0
CommandInputs None command there result = InputsGive command there result
CommandInputs (Some due) command there (Ok inputs) = ⊥
CommandInputs (Some due) command there (Err status.NoMemory) = Unit {0}
CommandInputs (Some due) command there (Err s) = s ≡ due
