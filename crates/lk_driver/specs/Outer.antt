-- This project's own: what a link may answer and what it does to the outside. These are the clauses of the top call,
-- over the input files and the output device before and after it; the link itself is said by the general definitions
-- `static_answer` and `IsFullLink`.
use Rattle.std.specs.Prelude.{◌≡◌, ℕ, List, Option, Some, None, Ok, Err, IfSome, MatchOption, Contains}
use Rattle.std.specs.List.{list_any}
use Rattle.lk_report.specs.FileMap.{FileMap}
use Rattle.lk_report.specs.Spoken.{Rose}
use Rattle.lk_report.specs.declared.statuses.LimitKind.TheVariants as limit
use Rattle.lk_report.specs.declared.statuses.Outcome.TheVariants as outcome
use Rattle.lk_report.specs.declared.statuses.Status.{Status}
use Rattle.lk_report.specs.declared.statuses.Status.TheVariants as status
use Rattle.lk_report.specs.declared.statuses.Waiting.TheVariants as waiting
use Rattle.lk_model.specs.Answers.{accepted_command, full_link, static_answer, words_wait}
use Rattle.lk_model.specs.Grammar.{grammar}
use Rattle.lk_model.specs.Links.{IsFullLink}
use Rattle.lk_model.specs.declared.commands.Command.{Command}
use Rattle.lk_outside.specs.Disk.{Disk}
use Rattle.lk_commit.specs.CrashStates.{IsFinished, IsStopped, WhereReported}
use Rattle.lk_outside.specs.FilesState.{FilesState}
use Rattle.lk_inputs.specs.Asked.{Asked, AskedSome, MissedMaybe, MissesReported, all_places, known_failed, is_missing, look_ups_of, paths_read, reads_before}
use Rattle.lk_inputs.specs.LookUps.{inputs_limit}
use Rattle.lk_inputs.specs.FileAnswers.{known_map}

-- ---- words

-- what words alone decide: that they are refused, that they wait, that they name too many inputs
abbrev pub words_answer : List (List ℕ) → Option Status
words_answer words = elim (grammar words) [
  | Err u ↦ Some (status.Usage u)
  | Ok c ↦ elim (words_wait c) [ Some s ↦ Some s | None ↦ inputs_limit c ]
]

-- a status that is due, or out of memory
abbrev pub IsFirstRefusal : Status → Status → Type 0
IsFirstRefusal due status.NoMemory = Unit {0}
IsFirstRefusal due s = s ≡ due

-- a status that words alone never decide
abbrev pub IsOfInputs : Status → Type 0
IsOfInputs (status.Usage u) = ⊥
IsOfInputs (status.NotYet waiting.Words) = ⊥
IsOfInputs (status.Limit l) = l.which ≡ limit.Inputs → ⊥
IsOfInputs s = Unit {0}

-- what words alone decide is reported before anything of the outside is asked for, and nothing else is reported so
abbrev pub WordsFirst : Option Status → FilesState → Disk → Status → FilesState → Disk → Type 0
WordsFirst (Some due) files disk s files_after disk_after = IsFirstRefusal due s × (files_after ≡ files) × (disk_after ≡ disk)
WordsFirst None files disk s files_after disk_after = IsOfInputs s

-- ---- the answer and the image

-- an answer against the one that is due: a failed read or device and out of memory may be in its
-- place, the device's only where the link is due to be done
abbrev pub AnswerIs : Status → Status → Type 0
AnswerIs (status.ReadFault path) due = Unit {0}
AnswerIs status.DeviceFault due = due ≡ full_link
AnswerIs status.NoMemory due = Unit {0}
AnswerIs s due = s ≡ due

-- where the files report their map, the answer is the one that the definitions give of words and map
abbrev pub IsDue : List (List ℕ) → FilesState → Status → Type 0
IsDue words files s = IfSome files.known (λ k. AnswerIs s (static_answer words k.map))

-- the bytes are an image of the words' command
abbrev pub IsImage : List (List ℕ) → FileMap → List ℕ → Type 0
IsImage words files image = MatchOption (accepted_command words) ⊥ (λ c. IsFullLink c files image)

-- a link that is done placed everything anew, and leaves an image of the command and the files, where the files
-- report their map and the device its bytes
abbrev pub DoneLeaves : List (List ℕ) → FilesState → Status → Disk → Type 0
DoneLeaves words files (status.Done (outcome.Full None)) disk =
    IfSome files.known (λ k. IfSome disk.stored (λ s. IsImage words k.map s.bytes))
DoneLeaves words files (status.Done other) disk = ⊥
DoneLeaves words files other disk = Unit {0}

-- where the device reports its bytes, there is an image, which is one of the words' command where the files report
-- their map, and a crash at any moment of the link leaves what one before the link left, the old file, that image, or
-- a file that no link takes as a base. Once the link is done a crash leaves the image; after a failed device the file
-- is one of the three.
abbrev pub IsOwnImage : List (List ℕ) → FilesState → List ℕ → Type 0
IsOwnImage words files image = IfSome files.known (λ k. IsImage words k.map image)

abbrev pub StopLeaves : List (List ℕ) → FilesState → Disk → Status → Disk → Type 0
StopLeaves words files old (status.Done how) new =
    WhereReported (λ before after. (image : List ℕ) × (IsOwnImage words files image × IsFinished image before after)) old.stored new.stored
StopLeaves words files old status.DeviceFault new =
    WhereReported (λ before after. (image : List ℕ) × (IsOwnImage words files image × IsStopped image before after)) old.stored new.stored
StopLeaves words files old other new = new ≡ old

-- ---- failures of the outside

-- the path is one of those where the command's inputs are looked for
abbrev pub NamesPlace : Option Command → List ℕ → Type 0
NamesPlace None path = ⊥
NamesPlace (Some c) path = Contains (all_places c) path

-- a failed read is reported only where the files' faults rose; its name is a place of the command's inputs and the
-- path of the call that failed. Any other answer leaves the faults as they were, but for out of memory.
abbrev pub ReadFaultReported : List (List ℕ) → FilesState → Status → FilesState → Type 0
ReadFaultReported words old (status.ReadFault path) new =
    Rose old.faults new.faults × NamesPlace (accepted_command words) path × IfSome new.known (λ k. k.failed ≡ Some path)
ReadFaultReported words old status.NoMemory new = Unit {0}
ReadFaultReported words old other new = new.faults ≡ old.faults

-- a failed device is reported only where the device's faults rose; any other answer leaves them
abbrev pub DeviceFaultReported : Disk → Status → Disk → Type 0
DeviceFaultReported old status.DeviceFault new = Rose old.faults new.faults
DeviceFaultReported old other new = new.faults ≡ old.faults

-- a missing input is reported only where the misses rose. Any other answer leaves them as they were; but a failed read
-- may come after an input that is missing, and out of memory at any time
abbrev pub MissingReported : FilesState → Status → FilesState → Type 0
MissingReported old (status.LinkError faults) new = MissesReported (list_any is_missing faults) old new
MissingReported old (status.ReadFault path) new = MissedMaybe old new
MissingReported old status.NoMemory new = Unit {0}
MissingReported old other new = new.misses ≡ old.misses

-- but for a link that is done or a device that failed, the device is as it was: its file, the ranges
-- written and its count
abbrev pub DeviceKept : Disk → Status → Disk → Type 0
DeviceKept old (status.Done how) new = Unit {0}
DeviceKept old status.DeviceFault new = Unit {0}
DeviceKept old other new = new ≡ old

-- ---- what the files were asked for

-- each place of an input is looked up in turn, up to the first that has a file, and then each input is read once, in
-- command order. But inputs of which one is missing are not read; a limit, a failed call and out of memory end it.
abbrev pub StatusAsked : Command → FileMap → FilesState → Status → FilesState → Type 0
StatusAsked c there old (status.LinkError faults) new = Asked (look_ups_of c there) (reads_before (list_any is_missing faults) c there) old new
StatusAsked c there old (status.Limit l) new = AskedSome (look_ups_of c there) (paths_read c there) old new
StatusAsked c there old (status.ReadFault path) new = AskedSome (look_ups_of c there) (paths_read c there) old new
StatusAsked c there old status.NoMemory new = AskedSome (look_ups_of c there) (paths_read c there) old new
StatusAsked c there old other new = Asked (look_ups_of c there) (paths_read c there) old new

-- the last call that failed stays the one that it was, where none failed
abbrev pub LastKept : FilesState → Status → FilesState → Type 0
LastKept old (status.ReadFault path) new = Unit {0}
LastKept old status.NoMemory new = Unit {0}
LastKept old other new = known_failed new ≡ known_failed old

-- where words decide nothing alone, the files keep their map, and are asked for the command's inputs alone
pub record InputsAsked (words : List (List ℕ)) (old : FilesState) (s : Status) (new : FilesState) : Type 0 where
  pub map : known_map new ≡ known_map old
  pub asked : (c : Command) (there : FileMap) → grammar words ≡ Ok c → known_map old ≡ Some there → StatusAsked c there old s new
  pub last : LastKept old s new

abbrev pub FilesKept : Option Status → List (List ℕ) → FilesState → Status → FilesState → Type 0
FilesKept (Some due) words old s new = new ≡ old
FilesKept None words old s new = InputsAsked words old s new
