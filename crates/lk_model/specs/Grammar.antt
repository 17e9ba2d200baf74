-- This project's own: the words of a command. They are read from left to right as phrases, a word
-- with its value being one; each part of the command is then looked up among the phrases.
use Rattle.std.specs.Prelude.{ℕ, ◌+◌, ◌*◌, ◌-◌, ◌==◌, Bool, true, false, not, ◌&&◌, if◌then◌else◌, nat_eq, nat_le, List, [], ◌∷◌, ◌++◌, flat_map, fold, find, length, drop, codes, bytes_eq, is_some, is_none, Option, Some, None, Result, Ok, Err}
use Rattle.std.specs.List.{list_any, list_all, starts_with, join_with_byte}
use Rattle.std.specs.Bool.{then_some}
use Rattle.lk_report.specs.declared.causes.OptionRecord.{OptionRecord}
use Rattle.lk_report.specs.declared.faults.UsageFault.{UsageFault}
use Rattle.lk_report.specs.declared.faults.UsageFault.TheVariants.{UnknownWord, MissingValue, BadNumber, OpenLib, NestedLib, NoLibOpen, TwoOutputs, NoInput}
use Rattle.lk_model.specs.declared.commands.Command.{Command}
use Rattle.lk_model.specs.declared.commands.Item.{Item}
use Rattle.lk_model.specs.declared.commands.Item.TheVariants.{One, Lib}
use Rattle.lk_model.specs.declared.commands.Mark.{Mark}
use Rattle.lk_model.specs.declared.commands.Mark.TheVariants.{Unknown, Changed, Unchanged}
use Rattle.lk_model.specs.declared.commands.Mode.{Mode}
use Rattle.lk_model.specs.declared.commands.Mode.TheVariants.{Full, Update, Either}
use Rattle.lk_model.specs.declared.commands.Word.{Word}
use Rattle.lk_model.specs.Checks.{first_fault, is_some_with}

-- ---- the words

-- the options that have a value
pub data Valued : Type 0 where
  Output : Valued
  Entry : Valued
  Dir : Valued
  Library : Valued
  Interp : Valued
  RunPath : Valued
  Machine : Valued
  Base : Valued
  Patch : Valued
  ThreadCount : Valued

-- the words that are options by themselves
pub data Flag : Type 0 where
  ExportDynamic : Flag
  InMode : (mode : Mode) → Flag
  Marked : (mark : Mark) → Flag
  Threads : Flag
  NoThreads : Flag
  StartLib : Flag
  EndLib : Flag

-- what a word is
pub data Meaning : Type 0 where
  Meaningless : Meaning
  Path : Meaning
  Alone : (flag : Flag) → Meaning
  Apart : (option : Valued) → Meaning
  Joined : (option : Valued) (value : List ℕ) → Meaning

-- the words that are options as they are
unfoldable pub whole_words : List (List ℕ × Meaning)
whole_words =
    (codes "-o", Apart Output)
    ∷ (codes "-e", Apart Entry)
    ∷ (codes "-L", Apart Dir)
    ∷ (codes "-l", Apart Library)
    ∷ (codes "-dynamic-linker", Apart Interp)
    ∷ (codes "-rpath", Apart RunPath)
    ∷ (codes "-m", Apart Machine)
    ∷ (codes "--thread-count", Apart ThreadCount)
    ∷ (codes "--export-dynamic", Alone ExportDynamic)
    ∷ (codes "--incremental", Alone (InMode Either))
    ∷ (codes "--incremental-full", Alone (InMode Full))
    ∷ (codes "--incremental-update", Alone (InMode Update))
    ∷ (codes "--incremental-changed", Alone (Marked Changed))
    ∷ (codes "--incremental-unchanged", Alone (Marked Unchanged))
    ∷ (codes "--incremental-unknown", Alone (Marked Unknown))
    ∷ (codes "--threads", Alone Threads)
    ∷ (codes "--no-threads", Alone NoThreads)
    ∷ (codes "--start-lib", Alone StartLib)
    ∷ (codes "--end-lib", Alone EndLib)
    ∷ []

-- the beginnings after which the rest of the word is the value
unfoldable pub beginnings : List (List ℕ × Valued)
beginnings =
    (codes "--entry=", Entry)
    ∷ (codes "-L", Dir)
    ∷ (codes "-l", Library)
    ∷ (codes "--dynamic-linker=", Interp)
    ∷ (codes "-rpath=", RunPath)
    ∷ (codes "--incremental-base=", Base)
    ∷ (codes "--incremental-patch=", Patch)
    ∷ []

-- an input's path is not empty and does not begin with a dash
abbrev pub is_path : List ℕ → Bool
is_path [] = false
is_path (b ∷ bs) = not (b == 45)

-- a byte of it is zero
abbrev pub holds_zero : List ℕ → Bool
holds_zero text = list_any (λ b. b == 0) text

-- a word that is no option as it is
abbrev pub joined_meaning : List ℕ → Option (List ℕ × Valued) → Meaning
joined_meaning word (Some row) = Joined row.1 (drop (length row.0) word)
joined_meaning word None = if is_path word then Path else Meaningless

-- a word by its row among the options that are as they are
abbrev pub word_meaning : List ℕ → Option (List ℕ × Meaning) → Meaning
word_meaning word (Some row) = row.1
word_meaning word None = joined_meaning word (find (λ (row : List ℕ × Valued). starts_with nat_eq word row.0) beginnings)

-- what a word is; one that holds a zero byte is nothing
unfoldable pub meaning_of : List ℕ → Meaning
meaning_of word =
    if holds_zero word then Meaningless
    else word_meaning word (find (λ (row : List ℕ × Meaning). bytes_eq row.0 word) whole_words)

-- ---- phrases

-- a word with its number from 1, or an option with its number, its value, where it has one, and the
-- number of the word that holds the value
pub data Phrase : Type 0 where
  Wrong : (number : ℕ) → Phrase
  Named : (path : List ℕ) → Phrase
  Flagged : (number : ℕ) (flag : Flag) → Phrase
  Given : (number : ℕ) (option : Valued) (at : ℕ) (value : Option (List ℕ)) → Phrase

-- the phrase of a word that does not wait for its value
abbrev pub phrase_of : ℕ → List ℕ → Meaning → List Phrase
phrase_of n word Meaningless = Wrong n ∷ []
phrase_of n word Path = Named word ∷ []
phrase_of n word (Alone flag) = Flagged n flag ∷ []
phrase_of n word (Joined option value) = Given n option n (Some value) ∷ []
phrase_of n word (Apart option) = []

-- the phrase that a word ends: of the option before it whose value it is, or its own
abbrev pub phrase_ended : ℕ → Option Valued → List ℕ → List Phrase
phrase_ended n (Some option) word = Given (n - 1) option n (Some word) ∷ []
phrase_ended n None word = phrase_of n word (meaning_of word)

-- the option of a word that waits for its value
abbrev pub option_apart : Meaning → Option Valued
option_apart (Apart option) = Some option
option_apart other = None

-- the option that waits for the word after this one
abbrev pub waiting_after : Option Valued → List ℕ → Option Valued
waiting_after (Some option) word = None
waiting_after None word = option_apart (meaning_of word)

-- the phrases from word n on, where an option may wait for its value
unfoldable pub phrases_from : ℕ → Option Valued → List (List ℕ) → List Phrase
phrases_from n None [] = []
phrases_from n (Some option) [] = Given (n - 1) option n None ∷ []
phrases_from n waiting (word ∷ words) =
    phrase_ended n waiting word ++ phrases_from (n + 1) (waiting_after waiting word) words

-- the phrases of a command
abbrev pub phrases_of : List (List ℕ) → List Phrase
phrases_of words = phrases_from 1 None words

-- ---- faults

-- 1 to 4 decimal digits
abbrev pub is_digits : List ℕ → Bool
is_digits text = nat_le 1 (length text) && nat_le (length text) 4 && list_all (λ b. nat_le 48 b && nat_le b 57) text

-- the number that decimal digits spell
abbrev pub number_in : List ℕ → ℕ
number_in text = fold (λ n b. n * 10 + (b - 48)) 0 text

-- a number of 1 to 4 digits in a range
abbrev pub is_number_in : ℕ → ℕ → List ℕ → Bool
is_number_in low high text = is_digits text && nat_le low (number_in text) && nat_le (number_in text) high

-- the value is missing, or is the empty text
abbrev pub is_missing : Option (List ℕ) → Bool
is_missing None = true
is_missing (Some []) = true
is_missing (Some (b ∷ bs)) = false

-- the value is another than the machine's name
abbrev pub is_other_machine : Valued → List ℕ → Bool
is_other_machine Machine value = not (bytes_eq value (codes "elf_x86_64"))
is_other_machine other value = false

-- the value is to be a number, and is none of its range
abbrev pub is_bad_number : Valued → List ℕ → Bool
is_bad_number Patch value = not (is_number_in 0 500 value)
is_bad_number ThreadCount value = not (is_number_in 1 16 value)
is_bad_number other value = false

-- the output option
abbrev pub is_output : Valued → Bool
is_output Output = true
is_output other = false

-- a phrase that names the output
abbrev pub names_output : Phrase → Bool
names_output (Given number option at value) = is_output option
names_output other = false

-- the number of the open `--start-lib` after one more phrase
abbrev pub open_after : Option ℕ → Phrase → Option ℕ
open_after open_lib (Flagged number StartLib) = Some number
open_after open_lib (Flagged number EndLib) = None
open_after open_lib other = open_lib

-- the number of the `--start-lib` that is open after these phrases
abbrev pub open_lib_in : List Phrase → Option ℕ
open_lib_in phrases = fold open_after None phrases

-- the checks of a word that is an option by itself, after those phrases
abbrev pub flag_checks : List Phrase → ℕ → Flag → List (Bool × UsageFault)
flag_checks earlier number StartLib = (is_some (open_lib_in earlier), NestedLib number) ∷ []
flag_checks earlier number EndLib = (is_none (open_lib_in earlier), NoLibOpen number) ∷ []
flag_checks earlier number other = []

-- the checks of a phrase, after those phrases: the faults of its first word, then those of its value
unfoldable pub phrase_checks : List Phrase → Phrase → List (Bool × UsageFault)
phrase_checks earlier (Wrong number) = (true, UnknownWord number) ∷ []
phrase_checks earlier (Named path) = []
phrase_checks earlier (Flagged number flag) = flag_checks earlier number flag
phrase_checks earlier (Given number option at value) =
    (is_missing value, MissingValue number)
    ∷ (is_output option && list_any names_output earlier, TwoOutputs number)
    ∷ (is_some_with holds_zero value, UnknownWord at)
    ∷ (is_some_with (is_other_machine option) value, UnknownWord at)
    ∷ (is_some_with (is_bad_number option) value, BadNumber at)
    ∷ []

-- the checks of phrases in order, each after those before it
unfoldable pub checks_after : List Phrase → List Phrase → List (Bool × UsageFault)
checks_after earlier [] = []
checks_after earlier (phrase ∷ phrases) = phrase_checks earlier phrase ++ checks_after (earlier ++ phrase ∷ []) phrases

-- the check that no lib group is open at the end
abbrev pub open_checks : Option ℕ → List (Bool × UsageFault)
open_checks None = []
open_checks (Some number) = (true, OpenLib number) ∷ []

-- ---- the command

-- the words named `with_..` give the value after one more phrase: the last phrase that gives one counts

-- the output's path
abbrev pub with_output : List ℕ → Phrase → List ℕ
with_output old (Given number Output at (Some value)) = value
with_output old other = old

-- the entry symbol
abbrev pub with_entry : List ℕ → Phrase → List ℕ
with_entry old (Given number Entry at (Some value)) = value
with_entry old other = old

-- the interpreter's path
abbrev pub with_interp : List ℕ → Phrase → List ℕ
with_interp old (Given number Interp at (Some value)) = value
with_interp old other = old

-- the earlier image
abbrev pub with_base : Option (List ℕ) → Phrase → Option (List ℕ)
with_base old (Given number Base at (Some value)) = Some value
with_base old other = old

-- the room for growth in percent
abbrev pub with_patch : ℕ → Phrase → ℕ
with_patch old (Given number Patch at (Some value)) = number_in value
with_patch old other = old

-- how the output is made
abbrev pub with_mode : Mode → Phrase → Mode
with_mode old (Flagged number (InMode mode)) = mode
with_mode old other = old

-- whether every definition is exported
abbrev pub with_export : Bool → Phrase → Bool
with_export old (Flagged number ExportDynamic) = true
with_export old other = old

-- the number of workers
abbrev pub with_workers : ℕ → Phrase → ℕ
with_workers old (Flagged number Threads) = 4
with_workers old (Flagged number NoThreads) = 1
with_workers old (Given number ThreadCount at (Some value)) = number_in value
with_workers old other = old

-- the directories that a phrase adds to the search
abbrev pub dirs_of : Phrase → List (List ℕ)
dirs_of (Given number Dir at (Some value)) = value ∷ []
dirs_of other = []

-- the directories that a phrase adds to the run path
abbrev pub run_dirs_of : Phrase → List (List ℕ)
run_dirs_of (Given number RunPath at (Some value)) = value ∷ []
run_dirs_of other = []

-- the inputs so far: the mark of the next, the words of the open lib group, the items that are whole
pub record Listed : Type 0 where
  pub mark : Mark
  pub open_words : Option (List Word)
  pub items : List Item

-- one more input, in the open lib group or outside one
unfoldable pub put_word : Mark → Option (List Word) → List Item → Word → Listed
put_word mark None items word = record { mark = mark; open_words = None; items = items ++ One word ∷ [] }
put_word mark (Some words) items word = record { mark = mark; open_words = Some (words ++ word ∷ []); items = items }

-- the lib group that ends
abbrev pub ended_group : Option (List Word) → List Item
ended_group None = []
ended_group (Some words) = Lib words ∷ []

-- the inputs after one more phrase
unfoldable pub with_input : Listed → Phrase → Listed
with_input old (Named path) =
    put_word old.mark old.open_words old.items (record { text = path; library = false; mark = old.mark })
with_input old (Given number Library at (Some name)) =
    put_word old.mark old.open_words old.items (record { text = name; library = true; mark = old.mark })
with_input old (Flagged number (Marked mark)) = record { mark = mark; open_words = old.open_words; items = old.items }
with_input old (Flagged number StartLib) = record { mark = old.mark; open_words = Some []; items = old.items }
with_input old (Flagged number EndLib) =
    record { mark = old.mark; open_words = None; items = old.items ++ ended_group old.open_words }
with_input old other = old

-- no input yet
abbrev pub nothing_listed : Listed
nothing_listed = record { mark = Unknown; open_words = None; items = [] }

-- the inputs and lib groups of a command
abbrev pub items_of : List Phrase → List Item
items_of phrases = (fold with_input nothing_listed phrases).items

-- a phrase that names an input
abbrev pub names_input : Phrase → Bool
names_input (Named path) = true
names_input (Given number Library at value) = true
names_input other = false

-- the earlier image; none where it is the output itself
abbrev pub base_beside : List ℕ → Option (List ℕ) → Option (List ℕ)
base_beside output None = None
base_beside output (Some base) = then_some (not (bytes_eq base output)) base

-- the options that an image records
unfoldable pub options_of : List Phrase → OptionRecord
options_of phrases = record {
  entry = fold with_entry (codes "_start") phrases;
  interp = fold with_interp [] phrases;
  runpath = join_with_byte 58 (flat_map run_dirs_of phrases);
  patch = fold with_patch 10 phrases;
  export_dynamic = fold with_export false phrases;
  dynamic = false;
}

-- what the phrases of a command say
unfoldable pub command_of : List Phrase → Command
command_of phrases = record {
  output = fold with_output (codes "a.out") phrases;
  mode = fold with_mode Full phrases;
  base = base_beside (fold with_output (codes "a.out") phrases) (fold with_base None phrases);
  options = options_of phrases;
  dirs = flat_map dirs_of phrases;
  items = items_of phrases;
  workers = fold with_workers 4 phrases;
}

-- the checks of a command: those of its phrases in order, then that no lib group is open, then that
-- an input is named
unfoldable pub usage_checks : List Phrase → List (Bool × UsageFault)
usage_checks phrases =
    checks_after [] phrases
    ++ open_checks (open_lib_in phrases)
    ++ (not (list_any names_input phrases), NoInput) ∷ []

-- the command of phrases with this fault
abbrev pub command_unless : Option UsageFault → List Phrase → Result Command UsageFault
command_unless (Some fault) phrases = Err fault
command_unless None phrases = Ok (command_of phrases)

-- the command of phrases
abbrev pub command_in : List Phrase → Result Command UsageFault
command_in phrases = command_unless (first_fault (usage_checks phrases)) phrases

-- the command that the words are, or their first fault
unfoldable pub grammar : List (List ℕ) → Result Command UsageFault
grammar words = command_in (phrases_of words)

-- the output of a command, or of refused words
abbrev pub output_where : Result Command UsageFault → List ℕ
output_where (Ok command) = command.output
output_where (Err fault) = codes "a.out"

-- the path of the output, also where the words are refused
unfoldable pub output_of_words : List (List ℕ) → List ℕ
output_of_words words = output_where (grammar words)
