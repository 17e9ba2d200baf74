-- This project's own: what the look-ups of words answer.
use Rattle.std.specs.Prelude.{◌≡◌, ◌<◌, ℕ, [], List, length, filter_map, find, Option, Some, None, Result, Ok, Err}
use Rattle.lk_report.specs.FileMap.{FileMap}
use Rattle.lk_report.specs.declared.statuses.LimitKind.TheVariants as limit
use Rattle.lk_report.specs.declared.statuses.Status.{Status}
use Rattle.lk_report.specs.declared.statuses.Status.TheVariants as status
use Rattle.lk_model.specs.declared.commands.Command.{Command}
use Rattle.lk_model.specs.declared.commands.Word.{Word}
use Rattle.lk_model.specs.Answers.{limit_fault}
use Rattle.lk_model.specs.Inputs.{input_words, is_there, missing_in, missing_of, path_of}
use Rattle.lk_model.specs.declared.input_names.InputName.{InputName}
use Rattle.lk_inputs.specs.declared.look_ups.FoundFile.{FoundFile}
use Rattle.lk_inputs.specs.declared.word_look_ups.Sought.{Sought}
use Rattle.lk_inputs.specs.declared.unread.Unread.{Unread}
use Rattle.lk_inputs.specs.Named.{named_in, names_in}
use Rattle.lk_inputs.specs.FileAnswers.{stamp_at}

-- a place where a file is, with the file's stamp, or where none is
abbrev pub PlaceReported : FileMap → List ℕ → Result (Option FoundFile) Unread → Type 0
PlaceReported there path (Ok None) = there path ≡ None
PlaceReported there path (Ok (Some place)) = (place.path ≡ path) × (stamp_at there path ≡ Some place.stamp)
PlaceReported there path (Err unread) = Unit {0}

-- the first of these places that has a file, with the file's stamp, or that none has one
abbrev pub FirstPlaceReported : FileMap → List (List ℕ) → Result (Option FoundFile) Unread → Type 0
FirstPlaceReported there places (Ok None) = find (is_there there) places ≡ None
FirstPlaceReported there places (Ok (Some place)) = (find (is_there there) places ≡ Some place.path) × (stamp_at there place.path ≡ Some place.stamp)
FirstPlaceReported there places (Err unread) = Unit {0}

-- a word's input, where its file is there
abbrev pub WordReported : Command → FileMap → ℕ × Word → Result (Option InputName) Unread → Type 0
WordReported command there row (Ok None) = path_of command there row.1 ≡ None
WordReported command there row (Ok (Some name)) = named_in command there row ≡ Some name
WordReported command there row (Err unread) = Unit {0}

-- the inputs of words whose files are there, and the faults of those whose files are not
pub record AreSought (command : Command) (there : FileMap) (rows : List (ℕ × Word)) (sought : Sought) : Type 0 where
  pub names : sought.names ≡ filter_map (named_in command there) rows
  pub missing : sought.missing ≡ filter_map (missing_in command there) rows

abbrev pub WordsReported : Command → FileMap → List (ℕ × Word) → Result Sought Unread → Type 0
WordsReported command there rows (Ok sought) = AreSought command there rows sought
WordsReported command there rows (Err unread) = Unit {0}

-- more inputs than a link may have
abbrev pub inputs_limit : Command → Option Status
inputs_limit command = limit_fault limit.Inputs 4096 (length (input_words command))

-- what the look-ups of a command's inputs answer; a failed look-up and out of memory may be in place of
-- any answer but the limit, which comes first
abbrev pub LookUpsGive : Command → FileMap → Result (List InputName) Status → Type 0
LookUpsGive command there (Ok names) = (inputs_limit command ≡ None) × (missing_of command there ≡ []) × (names ≡ names_in command there)
LookUpsGive command there (Err (status.LinkError faults)) = (inputs_limit command ≡ None) × (0 < length faults) × (faults ≡ missing_of command there)
LookUpsGive command there (Err (status.Limit l)) = inputs_limit command ≡ Some (status.Limit l)
LookUpsGive command there (Err (status.ReadFault path)) = inputs_limit command ≡ None
LookUpsGive command there (Err status.NoMemory) = Unit {0}
LookUpsGive command there (Err _) = ⊥

-- the inputs that were looked for, where none of them is missing
abbrev pub SoughtGives : Sought → Result (List InputName) Status → Type 0
SoughtGives sought (Ok names) = (sought.missing ≡ []) × (names ≡ sought.names)
SoughtGives sought (Err (status.LinkError faults)) = (0 < length faults) × (faults ≡ sought.missing)
SoughtGives sought (Err _) = ⊥
