-- This project's own: which paths are looked up and which are read, in what order, where the files report it; which
-- answers name which paths; whether a file that is not there was counted; and of what kind answers are.
use Rattle.std.specs.Prelude.{◌≡◌, ◌++◌, ◌∷◌, [], ◌⊎◌, ℕ, Bool, true, false, cond, List, map, Contains, Option, Some, None, IsSome, option_map, filter_map, Result, Ok, Err}
use Rattle.std.specs.List.{flat_map, list_any}
use Rattle.lk_report.specs.FileMap.{FileMap}
use Rattle.lk_report.specs.Spoken.{Rose}
use Rattle.lk_report.specs.declared.faults.Fault.{Fault}
use Rattle.lk_report.specs.declared.faults.Fault.TheVariants as fault
use Rattle.lk_report.specs.declared.statuses.LimitKind.TheVariants as limit
use Rattle.lk_report.specs.declared.statuses.Status.{Status}
use Rattle.lk_report.specs.declared.statuses.Status.TheVariants as status
use Rattle.lk_report.specs.declared.statuses.Waiting.TheVariants as waiting
use Rattle.lk_model.specs.declared.commands.Command.{Command}
use Rattle.lk_model.specs.declared.commands.Word.{Word}
use Rattle.lk_model.specs.Inputs.{input_words, is_there, places_of}
use Rattle.lk_outside.specs.FilesState.{FilesState, Known}
use Rattle.lk_outside.specs.declared.files.ReadAnswer.{ReadAnswer}
use Rattle.lk_outside.specs.declared.files.ReadAnswer.TheVariants as read
use Rattle.lk_outside.specs.declared.files.StatAnswer.{StatAnswer}
use Rattle.lk_outside.specs.declared.files.StatAnswer.TheVariants as stat
use Rattle.lk_inputs.specs.FilesRead.{fault_in, shared_wait, summary_of}
use Rattle.lk_inputs.specs.LookUps.{inputs_limit}
use Rattle.lk_inputs.specs.Named.{names_in}
use Rattle.lk_inputs.specs.FileAnswers.{known_reads, reads_with}
use Rattle.lk_inputs.specs.declared.input_files.InputFile.{InputFile}
use Rattle.lk_model.specs.declared.input_names.InputName.{InputName}
use Rattle.lk_inputs.specs.declared.inputs.Inputs.{Inputs}
use Rattle.lk_inputs.specs.declared.unread.Unread.{Unread}
use Rattle.lk_inputs.specs.declared.unread.Unread.TheVariants as unread

-- ---- paths that are asked for

-- paths in order, where the files report them
abbrev pub Paths : Type 0
Paths = Option (List (List ℕ))

-- the paths that were given to `stat`
abbrev pub known_stats : FilesState → Paths
known_stats state = option_map (λ (k : Known). k.stats) state.known

-- of these paths some from the first on were asked for, and no other
pub record FrontAsked (before : Paths) (all : List (List ℕ)) (after : Paths) : Type 0 where
  pub front : List (List ℕ)
  pub rest : List (List ℕ)
  pub whole : all ≡ front ++ rest
  pub asked : after ≡ reads_with front before

-- all of them were asked for in turn, or, where there is no answer, some from the first on
abbrev pub AskedInTurn : {X Y : Type 0} → Paths → List (List ℕ) → Result X Y → Paths → Type 0
AskedInTurn before all (Ok x) after = after ≡ reads_with all before
AskedInTurn before all (Err y) after = FrontAsked before all after

-- one look-up and one read ask for their path, but maybe for out of memory
abbrev pub StatAsked : Paths → List ℕ → StatAnswer → Paths → Type 0
StatAsked before path (stat.Found stamp) after = after ≡ reads_with (path ∷ []) before
StatAsked before path stat.Absent after = after ≡ reads_with (path ∷ []) before
StatAsked before path stat.Failed after = after ≡ reads_with (path ∷ []) before
StatAsked before path stat.NoMemory after = FrontAsked before (path ∷ []) after

abbrev pub ReadAsked : Paths → List ℕ → ReadAnswer → Paths → Type 0
ReadAsked before path (read.Got bytes) after = after ≡ reads_with (path ∷ []) before
ReadAsked before path read.Absent after = after ≡ reads_with (path ∷ []) before
ReadAsked before path read.Failed after = after ≡ reads_with (path ∷ []) before
ReadAsked before path read.NoMemory after = FrontAsked before (path ∷ []) after

-- of the places of a file those that are looked at: one after another, up to the first that has a file
abbrev pub looked_up_to : FileMap → List (List ℕ) → List (List ℕ)
looked_up_to there [] = []
looked_up_to there (place ∷ places) = place ∷ cond (is_there there place) [] (looked_up_to there places)

-- the look-ups of a word, and of words
abbrev pub word_look_ups : Command → FileMap → ℕ × Word → List (List ℕ)
word_look_ups command there row = looked_up_to there (places_of command row.1)

abbrev pub words_look_ups : Command → FileMap → List (ℕ × Word) → List (List ℕ)
words_look_ups command there rows = flat_map (word_look_ups command there) rows

-- all look-ups of a command, in command order
unfoldable pub look_ups_of : Command → FileMap → List (List ℕ)
look_ups_of command there = words_look_ups command there (input_words command)

-- the path of an input
abbrev pub name_path : InputName → List ℕ
name_path name = name.path

-- the input of a file
abbrev pub file_name : InputFile → InputName
file_name file = file.name

-- the paths of a command's inputs whose files are there, in command order
abbrev pub paths_read : Command → FileMap → List (List ℕ)
paths_read command there = map name_path (names_in command there)

-- after the look-ups of a command: all where it has its inputs, or those that are missing
abbrev pub LookUpsAsked : {X : Type 0} → Paths → List (List ℕ) → Result X Status → Paths → Type 0
LookUpsAsked before all (Ok x) after = after ≡ reads_with all before
LookUpsAsked before all (Err (status.LinkError faults)) after = after ≡ reads_with all before
LookUpsAsked before all (Err s) after = FrontAsked before all after

-- ---- files that are not there

-- a fault that reports a missing file
abbrev pub is_missing : Fault → Bool
is_missing (fault.Missing path) = true
is_missing other = false

-- where faults report a file that went away, some reads; else all
abbrev pub FaultsAsked : Bool → Paths → List (List ℕ) → Paths → Type 0
FaultsAsked true before all after = FrontAsked before all after
FaultsAsked false before all after = after ≡ reads_with all before

-- after the reads of inputs: all where they are read, or wait, or have faults
abbrev pub FilesAsked : {X : Type 0} → Paths → List (List ℕ) → Result X Status → Paths → Type 0
FilesAsked before all (Ok x) after = after ≡ reads_with all before
FilesAsked before all (Err (status.NotYet w)) after = after ≡ reads_with all before
FilesAsked before all (Err (status.LinkError faults)) after = FaultsAsked (list_any is_missing faults) before all after
FilesAsked before all (Err s) after = FrontAsked before all after

-- a file that is not there is counted, and nothing else is
abbrev pub StatMisses : FilesState → StatAnswer → FilesState → Type 0
StatMisses old (stat.Found stamp) new = new.misses ≡ old.misses
StatMisses old stat.Absent new = Rose old.misses new.misses
StatMisses old stat.Failed new = new.misses ≡ old.misses
StatMisses old stat.NoMemory new = new.misses ≡ old.misses

abbrev pub ReadMisses : FilesState → ReadAnswer → FilesState → Type 0
ReadMisses old (read.Got bytes) new = new.misses ≡ old.misses
ReadMisses old read.Absent new = Rose old.misses new.misses
ReadMisses old read.Failed new = new.misses ≡ old.misses
ReadMisses old read.NoMemory new = new.misses ≡ old.misses

-- what is looked for at one place is not there only where it was counted
abbrev pub OneMisses : {X : Type 0} → FilesState → Result (Option X) Unread → FilesState → Type 0
OneMisses old (Ok None) new = Rose old.misses new.misses
OneMisses old (Ok (Some x)) new = new.misses ≡ old.misses
OneMisses old (Err u) new = new.misses ≡ old.misses

-- files that are not there may have been counted
abbrev pub MissedMaybe : FilesState → FilesState → Type 0
MissedMaybe old new = (new.misses ≡ old.misses) ⊎ Rose old.misses new.misses

-- whether a file that is not there was counted
abbrev pub MissesReported : Bool → FilesState → FilesState → Type 0
MissesReported true old new = Rose old.misses new.misses
MissesReported false old new = new.misses ≡ old.misses

-- inputs are reported as missing only where one was counted; before a call that failed some may have been
abbrev pub WordsMiss : {X : Type 0} → (X → List Fault) → FilesState → Result X Unread → FilesState → Type 0
WordsMiss missing old (Ok x) new = MissesReported (list_any is_missing (missing x)) old new
WordsMiss missing old (Err (unread.Failed path)) new = MissedMaybe old new
WordsMiss missing old (Err unread.NoMemory) new = Unit {0}

-- the same of a link's first passes
abbrev pub StatusMisses : {X : Type 0} → FilesState → Result X Status → FilesState → Type 0
StatusMisses old (Ok x) new = new.misses ≡ old.misses
StatusMisses old (Err (status.LinkError faults)) new = MissesReported (list_any is_missing faults) old new
StatusMisses old (Err (status.ReadFault path)) new = MissedMaybe old new
StatusMisses old (Err status.NoMemory) new = Unit {0}
StatusMisses old (Err s) new = new.misses ≡ old.misses

-- a library among the words of inputs
abbrev pub is_library_row : ℕ × Word → Bool
is_library_row row = row.1.library

abbrev pub has_library : List (ℕ × Word) → Bool
has_library rows = list_any is_library_row rows

-- ---- failures

-- the path of the last call that failed
abbrev pub known_failed : FilesState → Option (Option (List ℕ))
known_failed state = option_map (λ (k : Known). k.failed) state.known

-- the last call that failed is the same, but where one failed
abbrev pub StatLast : FilesState → StatAnswer → FilesState → Type 0
StatLast old (stat.Found stamp) new = known_failed new ≡ known_failed old
StatLast old stat.Absent new = known_failed new ≡ known_failed old
StatLast old stat.Failed new = Unit {0}
StatLast old stat.NoMemory new = known_failed new ≡ known_failed old

abbrev pub ReadLast : FilesState → ReadAnswer → FilesState → Type 0
ReadLast old (read.Got bytes) new = known_failed new ≡ known_failed old
ReadLast old read.Absent new = known_failed new ≡ known_failed old
ReadLast old read.Failed new = Unit {0}
ReadLast old read.NoMemory new = known_failed new ≡ known_failed old

abbrev pub UnreadLast : {X : Type 0} → FilesState → Result X Unread → FilesState → Type 0
UnreadLast old (Ok x) new = known_failed new ≡ known_failed old
UnreadLast old (Err u) new = Unit {0}

abbrev pub StatusLast : {X : Type 0} → FilesState → Result X Status → FilesState → Type 0
StatusLast old (Ok x) new = known_failed new ≡ known_failed old
StatusLast old (Err (status.ReadFault path)) new = Unit {0}
StatusLast old (Err status.NoMemory) new = Unit {0}
StatusLast old (Err s) new = known_failed new ≡ known_failed old

-- a call that failed is reported by one of these paths
abbrev pub UnreadNamed : {X : Type 0} → List (List ℕ) → Result X Unread → Type 0
UnreadNamed places (Ok x) = Unit {0}
UnreadNamed places (Err (unread.Failed path)) = Contains places path
UnreadNamed places (Err unread.NoMemory) = Unit {0}

abbrev pub StatusNamed : {X : Type 0} → List (List ℕ) → Result X Status → Type 0
StatusNamed places (Err (status.ReadFault path)) = Contains places path
StatusNamed places other = Unit {0}

-- all places where the files of words are looked for, and those of a command
abbrev pub word_places : Command → ℕ × Word → List (List ℕ)
word_places command row = places_of command row.1

abbrev pub words_places : Command → List (ℕ × Word) → List (List ℕ)
words_places command rows = flat_map (word_places command) rows

abbrev pub all_places : Command → List (List ℕ)
all_places command = words_places command (input_words command)

-- ---- kinds of answers

-- what reads alone answer: a file that went away, a limit on sizes, a failure, out of memory
abbrev pub IsOfReads : {X : Type 0} → Result X Status → Type 0
IsOfReads (Ok x) = Unit {0}
IsOfReads (Err (status.LinkError faults)) = list_any is_missing faults ≡ true
IsOfReads (Err (status.Limit l)) = l.which ≡ limit.Inputs → ⊥
IsOfReads (Err (status.ReadFault path)) = Unit {0}
IsOfReads (Err status.NoMemory) = Unit {0}
IsOfReads (Err s) = ⊥

-- what files that are read answer: their faults, a form that waits, out of memory
abbrev pub IsOfObjects : {X : Type 0} → Result X Status → Type 0
IsOfObjects (Ok x) = Unit {0}
IsOfObjects (Err (status.LinkError faults)) = list_any is_missing faults ≡ false
IsOfObjects (Err (status.NotYet (waiting.Form path))) = Unit {0}
IsOfObjects (Err status.NoMemory) = Unit {0}
IsOfObjects (Err s) = ⊥

-- either of these
abbrev pub IsOfFiles : {X : Type 0} → Result X Status → Type 0
IsOfFiles (Ok x) = Unit {0}
IsOfFiles (Err (status.LinkError faults)) = Unit {0}
IsOfFiles (Err (status.Limit l)) = l.which ≡ limit.Inputs → ⊥
IsOfFiles (Err (status.NotYet (waiting.Form path))) = Unit {0}
IsOfFiles (Err (status.ReadFault path)) = Unit {0}
IsOfFiles (Err status.NoMemory) = Unit {0}
IsOfFiles (Err s) = ⊥

-- what reading the inputs of a command answers; more inputs than a link may have are reported only where there are
abbrev pub IsOfReading : {X : Type 0} → Command → Result X Status → Type 0
IsOfReading command (Ok x) = Unit {0}
IsOfReading command (Err (status.LinkError faults)) = Unit {0}
IsOfReading command (Err (status.Limit l)) = l.which ≡ limit.Inputs → IsSome (inputs_limit command)
IsOfReading command (Err (status.NotYet (waiting.Form path))) = Unit {0}
IsOfReading command (Err (status.ReadFault path)) = Unit {0}
IsOfReading command (Err status.NoMemory) = Unit {0}
IsOfReading command (Err s) = ⊥

-- a limit on the number of inputs is reported first
abbrev pub LimitFirst : {X : Type 0} → Option Status → Result X Status → Type 0
LimitFirst None result = Unit {0}
LimitFirst (Some due) (Ok x) = ⊥
LimitFirst (Some due) (Err status.NoMemory) = Unit {0}
LimitFirst (Some due) (Err s) = s ≡ due

-- inputs of which none is a shared object and none has a fault, with what a link keeps of each
pub record AreSound (inputs : Inputs) : Type 0 where
  pub unshared : shared_wait inputs.files ≡ None
  pub no_faults : filter_map fault_in inputs.files ≡ []
  pub summaries : inputs.summaries ≡ map summary_of inputs.files

-- ---- all of a command

-- these paths were looked up, and these read
pub record Asked (looks paths : List (List ℕ)) (old new : FilesState) : Type 0 where
  pub stats : known_stats new ≡ reads_with looks (known_stats old)
  pub reads : known_reads new ≡ reads_with paths (known_reads old)

-- of these paths some from the first on were
pub record AskedSome (looks paths : List (List ℕ)) (old new : FilesState) : Type 0 where
  pub stats : FrontAsked (known_stats old) looks (known_stats new)
  pub reads : FrontAsked (known_reads old) paths (known_reads new)

-- the paths that are read before faults are reported: none where an input is missing
abbrev pub reads_before : Bool → Command → FileMap → List (List ℕ)
reads_before true command there = []
reads_before false command there = paths_read command there

-- each place of an input is looked up in turn, up to the first that has a file, and then each input is read once, in
-- command order. But inputs of which one is missing are not read; a limit, a failed call and out of memory end it.
abbrev pub CommandAsked : {X : Type 0} → Command → FileMap → FilesState → Result X Status → FilesState → Type 0
CommandAsked command there old (Ok x) new = Asked (look_ups_of command there) (paths_read command there) old new
CommandAsked command there old (Err (status.NotYet w)) new = Asked (look_ups_of command there) (paths_read command there) old new
CommandAsked command there old (Err (status.LinkError faults)) new = Asked (look_ups_of command there) (reads_before (list_any is_missing faults) command there) old new
CommandAsked command there old (Err s) new = AskedSome (look_ups_of command there) (paths_read command there) old new
