-- What is reported of the inputs of a command is what is reported of the command.
use Rattle.std.proofs.Common.{◌≡◌, refl, sym, ap, subst, List, Option, Some, None, Result, Ok, Err}
use Rattle.lk_report.specs.FileMap.{FileMap}
use Rattle.lk_report.specs.declared.statuses.Status.{Status}
use Rattle.lk_report.specs.declared.statuses.Status.TheVariants as status
use Rattle.lk_model.specs.declared.commands.Command.{Command}
use Rattle.lk_model.specs.declared.layouts.Placement.{Placement}
use Rattle.lk_model.specs.Inputs.{inputs_of}
use Rattle.lk_model.specs.Links.{resolved_of}
use Rattle.lk_model.specs.Resolving.{resolve}
use Rattle.lk_model.specs.Views.{Input}
use Rattle.lk_outside.specs.FilesState.{FilesState}
use Rattle.lk_scan_inputs.specs.Objects.{AreObjects}
use Rattle.lk_scan_inputs.proofs.UnrefusedObjects.{unrefused_are_objects}
use Rattle.lk_inputs.specs.declared.inputs.Inputs.{Inputs}
use Rattle.lk_inputs.specs.FileAnswers.{StatusCounts}
use Rattle.lk_inputs.specs.LookUps.{inputs_limit}
use Rattle.lk_inputs.specs.Refusals.{AreInputs, CommandInputs, IsRefusal, inputs_refusal}
use Rattle.lk_probe.specs.Laying.{CommandLaid, InputsLaid, IsOfLayout, command_refusal, layout_refusal, refusal_or}
use Rattle.lk_probe.proofs.InputsPlaced.{first_reported, later_reported}

-- ---- inputs that are refused

refused_at : (o : Option Status) (command : Command) (there : FileMap) (later : Option Status) (s : Status) → CommandInputs o command there (Err s) → IsRefusal (refusal_or o (refusal_or (inputs_refusal command there) later)) s
refused_at None command there later s h = first_reported s (inputs_refusal command there) later h
refused_at (Some due) command there later s h = first_reported s (Some due) (refusal_or (inputs_refusal command there) later) (due_reported s h)
  where
    due_reported : (s : Status) → CommandInputs (Some due) command there (Err s) → IsRefusal (Some due) s
    due_reported (status.Done how) h = ap (λ t. Some t) (sym h)
    due_reported (status.LinkError f) h = ap (λ t. Some t) (sym h)
    due_reported (status.Usage u) h = ap (λ t. Some t) (sym h)
    due_reported (status.ReadFault p) h = tt
    due_reported status.DeviceFault h = ap (λ t. Some t) (sym h)
    due_reported status.NoMemory h = tt
    due_reported (status.Limit l) h = ap (λ t. Some t) (sym h)
    due_reported (status.NotUpdated c) h = ap (λ t. Some t) (sym h)
    due_reported (status.NotYet w) h = ap (λ t. Some t) (sym h)

pub refused_laid : (command : Command) (there : FileMap) (s : Status) (result : Result Placement Status) → CommandInputs (inputs_limit command) command there (Err s) → result ≡ Err s → CommandLaid command there result
unfolding command_refusal
refused_laid command there s result h is =
    subst (λ (r : Result Placement Status). CommandLaid command there r) (sym is) (refused_at (inputs_limit command) command there (layout_refusal (resolved_of command there)) s h)

-- ---- inputs that are read

-- they are not refused, and so they are objects
read_inputs : (o : Option Status) (command : Command) (there : FileMap) (inputs : Inputs) → CommandInputs o command there (Ok inputs) → (o ≡ None) × (inputs_refusal command there ≡ None) × AreInputs (inputs_of command there) inputs
read_inputs None command there inputs h = (refl, h.0, h.1)
read_inputs (Some due) command there inputs h = absurd h

laid_at : (command : Command) (there : FileMap) (r : Result Placement Status) → inputs_limit command ≡ None → inputs_refusal command there ≡ None → InputsLaid (resolved_of command there) r → CommandLaid command there r
unfolding command_refusal
laid_at command there (Ok place) few given at = ((λ i. refusal_or (few i) (refusal_or (given i) (at.0 i))), at.1)
laid_at command there (Err s) few given at =
    later_reported s (inputs_limit command) (refusal_or (inputs_refusal command there) (layout_refusal (resolved_of command there))) few
    (later_reported s (inputs_refusal command there) (layout_refusal (resolved_of command there)) given at)

pub command_laid : (command : Command) (there : FileMap) (inputs : Inputs) (r : Result Placement Status) → CommandInputs (inputs_limit command) command there (Ok inputs)
    → ((xs : List Input) → AreInputs xs inputs → AreObjects xs → InputsLaid (resolve command.options xs) r) → CommandLaid command there r
unfolding resolved_of
command_laid command there inputs r h laid =
    let read : (inputs_limit command ≡ None) × (inputs_refusal command there ≡ None) × AreInputs (inputs_of command there) inputs = read_inputs (inputs_limit command) command there inputs h in
    laid_at command there r read.0 read.1 (laid (inputs_of command there) read.2 (unrefused_are_objects command there read.1))

-- a layout leaves the count of faults that the reads left
pub counts_kept : (old new : FilesState) (r : Result Placement Status) → new.faults ≡ old.faults → IsOfLayout r → StatusCounts old r new
counts_kept old new (Ok place) same kind = same
counts_kept old new (Err (status.LinkError faults)) same kind = same
counts_kept old new (Err (status.Limit l)) same kind = same
counts_kept old new (Err status.NoMemory) same kind = tt
counts_kept old new (Err (status.Done how)) same kind = absurd kind
counts_kept old new (Err (status.Usage u)) same kind = absurd kind
counts_kept old new (Err (status.ReadFault path)) same kind = absurd kind
counts_kept old new (Err status.DeviceFault) same kind = absurd kind
counts_kept old new (Err (status.NotUpdated c)) same kind = absurd kind
counts_kept old new (Err (status.NotYet w)) same kind = absurd kind
