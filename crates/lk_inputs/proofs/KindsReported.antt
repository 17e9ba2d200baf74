-- Of what kind answers are: the faults of files that are read report no missing file.
use Rattle.std.proofs.Common.{◌≡◌, refl, ap, ◌∙◌, subst, false, List, [], ◌∷◌, ℕ, Option, Some, None, Result, Ok, Err}
use Rattle.std.specs.Prelude.{option_map}
use Rattle.std.specs.List.{cons_option, filter_map, list_any}
use Rattle.lk_report.specs.declared.faults.Fault.TheVariants as fault
use Rattle.lk_report.specs.declared.faults.InputFault.{InputFault}
use Rattle.lk_report.specs.declared.statuses.Status.{Status}
use Rattle.lk_report.specs.declared.statuses.Status.TheVariants as status
use Rattle.lk_report.specs.declared.statuses.Waiting.{Waiting}
use Rattle.lk_report.specs.declared.statuses.Waiting.TheVariants as waiting
use Rattle.lk_model.specs.declared.summaries.InputSummary.{InputSummary}
use Rattle.lk_model.specs.ObjectChecks.{object_fault}
use Rattle.lk_inputs.specs.declared.input_files.InputFile.{InputFile}
use Rattle.lk_inputs.specs.Asked.{IsOfObjects, is_missing}
use Rattle.lk_inputs.specs.FilesRead.{ObjectsGive, SummariesGive, fault_in, first_shared, shared_wait}

pub none_missing_in : (files : List InputFile) → list_any is_missing (filter_map fault_in files) ≡ false
none_missing_in [] = refl
none_missing_in (file ∷ files) = by (object_fault file.bytes) (none_missing_in files)
  where
    by : (o : Option InputFault) → list_any is_missing (filter_map fault_in files) ≡ false
        → list_any is_missing (cons_option (option_map (λ (f : InputFault). fault.Input file.name.path f) o) (filter_map fault_in files)) ≡ false
    by None h = h
    by (Some f) h = h

waits_for_form : (files : List InputFile) (w : Waiting) → shared_wait files ≡ Some (status.NotYet w) → IsOfObjects {X = List InputSummary} (Err (status.NotYet w))
waits_for_form files w h = by (first_shared files) h
  where
    by : (o : Option (List ℕ)) → option_map (λ path. status.NotYet (waiting.Form path)) o ≡ Some (status.NotYet w) → IsOfObjects {X = List InputSummary} (Err (status.NotYet w))
    by None e = absurd (cc)
    by (Some path) e =
        let P : Waiting → Type 0 = λ v. IsOfObjects {X = List InputSummary} (Err (status.NotYet v)) in
        let same : waiting.Form path ≡ w = cc in
        subst P same tt

pub objects_kinds : (files : List InputFile) (r : Result (List InputSummary) Status) → ObjectsGive files r → IsOfObjects r
objects_kinds files (Ok summaries) h = tt
objects_kinds files (Err (status.LinkError faults)) h = ap (list_any is_missing) h.2 ∙ none_missing_in files
objects_kinds files (Err (status.NotYet w)) h = waits_for_form files w h
objects_kinds files (Err status.NoMemory) h = tt
objects_kinds files (Err (status.Done how)) h = absurd h
objects_kinds files (Err (status.Usage u)) h = absurd h
objects_kinds files (Err (status.ReadFault p)) h = absurd h
objects_kinds files (Err status.DeviceFault) h = absurd h
objects_kinds files (Err (status.Limit l)) h = absurd h
objects_kinds files (Err (status.NotUpdated c)) h = absurd h

pub summaries_kinds : (files : List InputFile) (r : Result (List InputSummary) Status) → SummariesGive files r → IsOfObjects r
summaries_kinds files (Ok summaries) h = tt
summaries_kinds files (Err (status.LinkError faults)) h = ap (list_any is_missing) h.1 ∙ none_missing_in files
summaries_kinds files (Err status.NoMemory) h = tt
summaries_kinds files (Err (status.NotYet w)) h = absurd h
summaries_kinds files (Err (status.Done how)) h = absurd h
summaries_kinds files (Err (status.Usage u)) h = absurd h
summaries_kinds files (Err (status.ReadFault p)) h = absurd h
summaries_kinds files (Err status.DeviceFault) h = absurd h
summaries_kinds files (Err (status.Limit l)) h = absurd h
summaries_kinds files (Err (status.NotUpdated c)) h = absurd h
