-- This project's own: what the reads of inputs answer, and what is known of the files that were read.
use Rattle.std.specs.Prelude.{◌≡◌, ◌+◌, ◌^◌, ◌==◌, ◌<◌, ℕ, Bool, true, false, if◌then◌else◌, [], ◌∷◌, List, length, map, filter_map, find, unwrap_or, Option, Some, None, option_map, Result, Ok, Err}
use Rattle.std.specs.List.{list_all}
use Rattle.lk_report.specs.FileMap.{FileMap}
use Rattle.lk_report.specs.declared.faults.Fault.{Fault}
use Rattle.lk_report.specs.declared.faults.Fault.TheVariants as fault
use Rattle.lk_report.specs.declared.faults.InputFault.{InputFault}
use Rattle.lk_report.specs.declared.statuses.LimitFault.{LimitFault}
use Rattle.lk_report.specs.declared.statuses.LimitKind.TheVariants as limit
use Rattle.lk_report.specs.declared.statuses.Status.{Status}
use Rattle.lk_report.specs.declared.statuses.Status.TheVariants as status
use Rattle.lk_report.specs.declared.statuses.Waiting.TheVariants as waiting
use Rattle.lk_model.specs.declared.summaries.InputSummary.{InputSummary}
use Rattle.lk_model.specs.Answers.{fault_status, is_shared_kind, limit_fault}
use Rattle.lk_model.specs.Elf.{elf_of}
use Rattle.lk_model.specs.Inputs.{is_there}
use Rattle.lk_model.specs.Kinds.{kind_of}
use Rattle.lk_model.specs.ObjectChecks.{object_fault}
use Rattle.lk_model.specs.Objects.{summary_in}
use Rattle.lk_inputs.specs.declared.input_files.InputFile.{InputFile}
use Rattle.lk_model.specs.declared.input_names.InputName.{InputName}
use Rattle.lk_inputs.specs.declared.inputs.Inputs.{Inputs}
use Rattle.lk_inputs.specs.declared.summaries.Judged.{Judged}
use Rattle.lk_inputs.specs.FileAnswers.{content_at}

-- the limits on the size of one more file, and of all with it, where so many bytes were read before
abbrev pub size_limit_at : ℕ → ℕ → Option Status
size_limit_at before n =
    elim (limit_fault limit.InputSize (2 ^ 26) n) [ Some s ↦ Some s | None ↦ limit_fault limit.InputTotal (2 ^ 30) (before + n) ]

-- the first limit that is exceeded as these files are read, where so many bytes were read before
abbrev pub sizes_limit : ℕ → List InputFile → Option Status
sizes_limit before [] = None
sizes_limit before (file ∷ files) =
    elim (size_limit_at before (length file.bytes)) [ Some s ↦ Some s | None ↦ sizes_limit (before + length file.bytes) files ]

-- one more file is read: the bytes read so far, or the limit that is exceeded
abbrev pub SizeGives : ℕ → ℕ → Result ℕ LimitFault → Type 0
SizeGives before n (Ok total) = (size_limit_at before n ≡ None) × (total ≡ before + n)
SizeGives before n (Err l) = size_limit_at before n ≡ Some (status.Limit l)

-- an input with the bytes that the map has; none where it has none
abbrev pub file_at : FileMap → InputName → InputFile
file_at there name = record { name = name; bytes = unwrap_or (content_at there name.path) [] }

abbrev pub files_at : FileMap → List InputName → List InputFile
files_at there names = map (file_at there) names

-- the bytes of one file, by the map; it is missing only where the map has none
abbrev pub ContentReported : FileMap → List ℕ → Result (List ℕ) Status → Type 0
ContentReported there path (Ok bytes) = content_at there path ≡ Some bytes
ContentReported there path (Err (status.LinkError faults)) = there path ≡ None
ContentReported there path (Err (status.ReadFault name)) = Unit {0}
ContentReported there path (Err status.NoMemory) = Unit {0}
ContentReported there path (Err _) = ⊥

-- what is reported of a file that went away
abbrev pub IsGone : List ℕ → Status → Type 0
IsGone path (status.LinkError faults) = faults ≡ fault.Missing path ∷ []
IsGone path status.NoMemory = Unit {0}
IsGone path _ = ⊥

-- whether the file of an input is there
abbrev pub is_name_there : FileMap → InputName → Bool
is_name_there there name = is_there there name.path

abbrev pub are_names_there : FileMap → List InputName → Bool
are_names_there there names = list_all (is_name_there there) names

-- what the reads of inputs answer, by the map; a file is missing only where the map has none
abbrev pub ReadsGive : FileMap → List InputName → Result (List InputFile) Status → Type 0
ReadsGive there names (Ok files) = (sizes_limit 0 (files_at there names) ≡ None) × (files ≡ files_at there names)
ReadsGive there names (Err (status.LinkError faults)) = are_names_there there names ≡ false
ReadsGive there names (Err (status.Limit l)) = sizes_limit 0 (files_at there names) ≡ Some (status.Limit l)
ReadsGive there names (Err (status.ReadFault path)) = Unit {0}
ReadsGive there names (Err status.NoMemory) = Unit {0}
ReadsGive there names (Err _) = ⊥

-- whether a file outside a lib group is a shared object
abbrev pub is_shared_file : InputFile → Bool
is_shared_file file = if file.name.lib == 0 then is_shared_kind (kind_of file.bytes) else false

-- the path of the first of these
abbrev pub first_shared : List InputFile → Option (List ℕ)
first_shared files = option_map (λ (file : InputFile). file.name.path) (find is_shared_file files)

-- the fault of a file that is read as an object
abbrev pub fault_in : InputFile → Option Fault
fault_in file = option_map (λ (f : InputFault). fault.Input file.name.path f) (object_fault file.bytes)

-- what a link keeps of a file that is read as an object, and of one without a fault
abbrev pub summary_of : InputFile → InputSummary
summary_of file = summary_in (elf_of file.bytes)

abbrev pub sound_summary : InputFile → Option InputSummary
sound_summary file = elim (object_fault file.bytes) [ None ↦ Some (summary_of file) | Some f ↦ None ]

-- the faults of files, and the summaries of those that have none
pub record AreJudged (files : List InputFile) (judged : Judged) : Type 0 where
  pub faults : judged.faults ≡ filter_map fault_in files
  pub summaries : judged.summaries ≡ filter_map sound_summary files

-- what is reported of files that are read as objects: all their faults, or all their summaries
abbrev pub SummariesGive : List InputFile → Result (List InputSummary) Status → Type 0
SummariesGive files (Ok summaries) = (filter_map fault_in files ≡ []) × (summaries ≡ map summary_of files)
SummariesGive files (Err (status.LinkError faults)) = (0 < length faults) × (faults ≡ filter_map fault_in files)
SummariesGive files (Err status.NoMemory) = Unit {0}
SummariesGive files (Err _) = ⊥

-- the first shared object makes its input wait
abbrev pub shared_wait : List InputFile → Option Status
shared_wait files = option_map (λ path. status.NotYet (waiting.Form path)) (first_shared files)

-- whether files wait
abbrev pub WaitGives : {X : Type 0} → List InputFile → Result X Status → Type 0
WaitGives files (Ok x) = shared_wait files ≡ None
WaitGives files (Err (status.NotYet w)) = shared_wait files ≡ Some (status.NotYet w)
WaitGives files (Err status.NoMemory) = Unit {0}
WaitGives files (Err _) = ⊥

-- the status of files of which one is a shared object, which is not built yet
abbrev pub ObjectsGive : List InputFile → Result (List InputSummary) Status → Type 0
ObjectsGive files (Ok summaries) = (shared_wait files ≡ None) × (filter_map fault_in files ≡ []) × (summaries ≡ map summary_of files)
ObjectsGive files (Err (status.LinkError faults)) = (shared_wait files ≡ None) × (0 < length faults) × (faults ≡ filter_map fault_in files)
ObjectsGive files (Err (status.NotYet w)) = shared_wait files ≡ Some (status.NotYet w)
ObjectsGive files (Err status.NoMemory) = Unit {0}
ObjectsGive files (Err _) = ⊥

-- why files are refused
abbrev pub files_refused : List InputFile → Option Status
files_refused files =
    elim (sizes_limit 0 files) [
      | Some s ↦ Some s
      | None ↦ elim (shared_wait files) [ Some s ↦ Some s | None ↦ fault_status (filter_map fault_in files) ]
    ]

-- what is reported of inputs whose files are there: a refusal, or the files and what a link keeps of each. A
-- failed read and out of memory may be in place of a refusal, and so may a file that is not there.
abbrev pub NamedRefused : FileMap → List InputName → Status → Type 0
NamedRefused there names (status.ReadFault path) = Unit {0}
NamedRefused there names status.NoMemory = Unit {0}
NamedRefused there names s = are_names_there there names ≡ true → files_refused (files_at there names) ≡ Some s

abbrev pub NamedGive : FileMap → List InputName → Result Inputs Status → Type 0
NamedGive there names (Ok inputs) = (files_refused (files_at there names) ≡ None) × (inputs.files ≡ files_at there names) × (inputs.summaries ≡ map summary_of (files_at there names))
NamedGive there names (Err s) = NamedRefused there names s
