-- This project's own: what is answered of the words of a link as far as the places of its output sections:
-- by the grammar, then the number of inputs, then inputs that are refused, then the limit on names, faults of
-- names and of references, then the limits on output sections and memory; else where everything goes.
use Rattle.std.specs.Prelude.{◌≡◌, ◌^◌, ℕ, List, Option, Some, None, Result, Ok, Err}
use Rattle.lk_report.specs.FileMap.{FileMap}
use Rattle.lk_report.specs.declared.faults.UsageFault.{UsageFault}
use Rattle.lk_report.specs.declared.statuses.LimitKind.TheVariants as limit
use Rattle.lk_report.specs.declared.statuses.Status.{Status}
use Rattle.lk_report.specs.declared.statuses.Status.TheVariants as status
use Rattle.lk_model.specs.declared.commands.Command.{Command}
use Rattle.lk_model.specs.declared.layouts.Placement.{Placement}
use Rattle.lk_model.specs.Answers.{fault_status, limit_fault}
use Rattle.lk_model.specs.FullPlace.{full_place, memory_of, section_count}
use Rattle.lk_model.specs.Grammar.{grammar}
use Rattle.lk_model.specs.Links.{resolved_of}
use Rattle.lk_model.specs.ResolveFaults.{name_count, resolve_faults}
use Rattle.lk_model.specs.ScanFaults.{scan_faults}
use Rattle.lk_model.specs.Views.{Resolved}
use Rattle.lk_inputs.specs.LookUps.{inputs_limit}
use Rattle.lk_inputs.specs.Refusals.{IsRefusal, inputs_refusal}

-- a refusal, or the next one where there is none
abbrev pub refusal_or : Option Status → Option Status → Option Status
refusal_or first later = elim first [ Some s ↦ Some s | None ↦ later ]

-- why what is resolved has no places: its names, its references, its placement
abbrev pub names_refusal : Resolved → Option Status
names_refusal r = refusal_or (limit_fault limit.Names (2 ^ 20) (name_count r)) (fault_status (resolve_faults r))

abbrev pub placement_refusal : Placement → Option Status
placement_refusal place = refusal_or (limit_fault limit.Sections 60000 (section_count place)) (limit_fault limit.Memory (2 ^ 31) (memory_of place))

unfoldable pub layout_refusal : Resolved → Option Status
layout_refusal r = refusal_or (names_refusal r) (refusal_or (fault_status (scan_faults r)) (placement_refusal (full_place r)))

-- where everything goes of what is resolved, or why it has no places, for which out of memory may be
abbrev pub InputsLaid : Resolved → Result Placement Status → Type 0
InputsLaid r (Ok place) = (layout_refusal r ≡ None) × (place ≡ full_place r)
InputsLaid r (Err s) = IsRefusal (layout_refusal r) s

-- resolution, scan and layout answer faults, a limit or out of memory; they read nothing
abbrev pub IsOfLayout : Result Placement Status → Type 0
IsOfLayout (Ok place) = Unit {0}
IsOfLayout (Err (status.LinkError faults)) = Unit {0}
IsOfLayout (Err (status.Limit l)) = Unit {0}
IsOfLayout (Err status.NoMemory) = Unit {0}
IsOfLayout (Err _) = ⊥

-- why a command has no placement
unfoldable pub command_refusal : Command → FileMap → Option Status
command_refusal command there = refusal_or (inputs_limit command) (refusal_or (inputs_refusal command there) (layout_refusal (resolved_of command there)))

-- what is answered of a command: the full placement, or why there is none, for which a failed read or out
-- of memory may be
abbrev pub CommandLaid : Command → FileMap → Result Placement Status → Type 0
CommandLaid command there (Ok place) = (command_refusal command there ≡ None) × (place ≡ full_place (resolved_of command there))
CommandLaid command there (Err s) = IsRefusal (command_refusal command there) s

-- a fault of usage is reported, or out of memory
abbrev pub IsUsage : UsageFault → Result Placement Status → Type 0
IsUsage u (Ok place) = ⊥
IsUsage u (Err status.NoMemory) = Unit {0}
IsUsage u (Err s) = s ≡ status.Usage u

-- what is answered of words
abbrev pub WordsLaid : List (List ℕ) → FileMap → Result Placement Status → Type 0
WordsLaid words there result = elim (grammar words) [ Err u ↦ IsUsage u result | Ok command ↦ CommandLaid command there result ]
