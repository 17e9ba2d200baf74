-- This project's own: the refusals of these passes are lk_model's answer of a static link.
use Rattle.std.specs.Prelude.{◌≡◌, List, Option, Some, None, Ok, Err}
use Rattle.lk_report.specs.FileMap.{FileMap}
use Rattle.lk_report.specs.declared.faults.Fault.{Fault}
use Rattle.lk_report.specs.declared.statuses.LimitFault.{LimitFault}
use Rattle.lk_report.specs.declared.statuses.Status.{Status}
use Rattle.lk_report.specs.declared.statuses.Status.TheVariants as status
use Rattle.lk_model.specs.declared.commands.Command.{Command}
use Rattle.lk_model.specs.Answers.{command_answer, fault_status, needs_wait, placed_answer, resolved_answer, words_wait}
use Rattle.lk_model.specs.FullPlace.{full_place}
use Rattle.lk_model.specs.Inputs.{inputs_of}
use Rattle.lk_model.specs.Links.{resolved_of}
use Rattle.lk_model.specs.ScanFaults.{scan_faults}
use Rattle.lk_model.specs.Views.{Resolved}
use Rattle.lk_resolve.specs.Given.{found_in}
use Rattle.lk_resolve.specs.Settling.{SettleGives, ResolutionValue}
use Rattle.lk_resolve.specs.declared.settle_faults.SettleFault.TheVariants as settle
use Rattle.lk_inputs.specs.LookUps.{inputs_limit}
use Rattle.lk_inputs.specs.Refusals.{inputs_refusal}

-- a refusal, or what is answered where there is none
abbrev pub answer_unless : Option Status → Status → Status
answer_unless first later = elim first [ Some s ↦ s | None ↦ later ]

-- the answer of a command is the first of: words that wait, too many inputs, inputs that are refused; else
-- that of what its inputs are resolved to
abbrev pub RefusalsAreTheModels : Type 0
RefusalsAreTheModels =
    (command : Command) (there : FileMap)
    → command_answer command there ≡ answer_unless (words_wait command) (answer_unless (inputs_limit command) (answer_unless (inputs_refusal command there) (resolved_answer (resolved_of command there))))

-- faults of names, and a limit on their number, are the answer of what inputs are resolved to
abbrev pub FaultsAreTheModels : Type 0
FaultsAreTheModels =
    (command : Command) (there : FileMap) (faults : List Fault)
    → SettleGives (found_in command.options.entry (inputs_of command there)) (Err (settle.Faults faults)) → resolved_answer (resolved_of command there) ≡ status.LinkError faults

abbrev pub LimitIsTheModels : Type 0
LimitIsTheModels =
    (command : Command) (there : FileMap) (l : LimitFault)
    → SettleGives (found_in command.options.entry (inputs_of command there)) (Err (settle.Limit l)) → resolved_answer (resolved_of command there) ≡ status.Limit l

-- the answer where the scan finds no fault
abbrev pub scanned_answer : Resolved → Status
scanned_answer r = answer_unless (fault_status (scan_faults r)) (answer_unless (needs_wait r) (placed_answer r (full_place r)))

-- where the inputs are resolved it is the scan that goes on
abbrev pub ResolutionGoesOn : Type 0
ResolutionGoesOn =
    (command : Command) (there : FileMap) (resolution : ResolutionValue)
    → SettleGives (found_in command.options.entry (inputs_of command there)) (Ok resolution) → resolved_answer (resolved_of command there) ≡ scanned_answer (resolved_of command there)
