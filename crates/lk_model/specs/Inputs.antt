-- This project's own: the inputs of a command in command order, with the files that the words name.
use Rattle.std.specs.Prelude.{ℕ, ◌+◌, ◌==◌, Bool, true, false, ◌&&◌, if◌then◌else◌, List, [], ◌∷◌, ◌++◌, map, filter, filter_map, find, length, codes, bytes_eq, is_some, is_none, Option, option_map, option_and_then, Result, Ok}
use Rattle.std.specs.Bool.{then_some}
use Rattle.lk_report.specs.declared.faults.Fault.{Fault}
use Rattle.lk_report.specs.declared.faults.Fault.TheVariants as faults
use Rattle.lk_report.specs.declared.faults.InputFault.{InputFault}
use Rattle.lk_report.specs.FileMap.{FileMap, FileRow}
use Rattle.lk_model.specs.declared.commands.Command.{Command}
use Rattle.lk_model.specs.declared.commands.Item.{Item}
use Rattle.lk_model.specs.declared.commands.Item.TheVariants.{One, Lib}
use Rattle.lk_model.specs.declared.commands.Word.{Word}
use Rattle.lk_model.specs.declared.summaries.InputSummary.{InputSummary}
use Rattle.lk_model.specs.declared.summaries.Kind.{Kind}
use Rattle.lk_model.specs.declared.summaries.Kind.TheVariants.{Shared}
use Rattle.lk_model.specs.Elf.{elf_of}
use Rattle.lk_model.specs.Kinds.{kind_of}
use Rattle.lk_model.specs.ObjectChecks.{object_fault}
use Rattle.lk_model.specs.Objects.{summary_in}
use Rattle.lk_model.specs.SharedChecks.{shared_fault}
use Rattle.lk_model.specs.SharedObjects.{shared_summary_in}
use Rattle.lk_model.specs.Views.{Elf, Input}

-- ---- paths

-- the directories that every search ends with
abbrev pub standard_dirs : List (List ℕ)
standard_dirs = codes "/usr/lib" ∷ codes "/lib" ∷ []

-- where a library is looked for: in the directories of the command, then in the standard ones
unfoldable pub candidates_of : Command → List ℕ → List (List ℕ)
candidates_of command name = map (λ dir. dir ++ codes "/lib" ++ name ++ codes ".so") (command.dirs ++ standard_dirs)

-- a file of this path is there
abbrev pub is_there : FileMap → List ℕ → Bool
is_there files path = is_some (files path)

-- the paths where an input's word is looked for
abbrev pub places_of : Command → Word → List (List ℕ)
places_of command word = if word.library then candidates_of command word.text else word.text ∷ []

-- the path of an input's word: the first place that has a file
unfoldable pub path_of : Command → FileMap → Word → Option (List ℕ)
path_of command files word = find (is_there files) (places_of command word)

-- ---- the words of the inputs

-- the words of the inputs with the number of their lib group, counted from n; 0 outside a group
unfoldable pub words_from : ℕ → List Item → List (ℕ × Word)
words_from n [] = []
words_from n (One word ∷ items) = (0, word) ∷ words_from n items
words_from n (Lib words ∷ items) = map (λ word. (n, word)) words ++ words_from (n + 1) items

-- the words of a command's inputs in order; lib groups are numbered from 1
abbrev pub input_words : Command → List (ℕ × Word)
input_words command = words_from 1 command.items

-- ---- inputs that are not there

-- how a fault names an input: by its path, a library by its word
abbrev pub missing_path : Word → List ℕ
missing_path word = if word.library then codes "-l" ++ word.text else word.text

-- the fault of a word without a file
abbrev pub missing_in : Command → FileMap → ℕ × Word → Option Fault
missing_in command files row = then_some (is_none (path_of command files row.1)) (faults.Missing (missing_path row.1))

-- all inputs that are not there, in command order
unfoldable pub missing_of : Command → FileMap → List Fault
missing_of command files = filter_map (missing_in command files) (input_words command)

-- ---- inputs

-- a word whose file is there, with its lib group, its path and the file
pub record FoundInput : Type 0 where
  pub lib : ℕ
  pub word : Word
  pub path : List ℕ
  pub file : FileRow

-- a word with the file of its path
abbrev pub found_at : FileMap → ℕ × Word → List ℕ → Option FoundInput
found_at files row path =
    option_map (λ (file : FileRow). record { lib = row.0; word = row.1; path = path; file = file }) (files path)

-- a word with its file
abbrev pub found_in : Command → FileMap → ℕ × Word → Option FoundInput
found_in command files row = option_and_then (found_at files row) (path_of command files row.1)

-- a shared object by its first bytes
abbrev pub is_shared : Result Kind InputFault → Bool
is_shared (Ok Shared) = true
is_shared other = false

-- whether a file is read as a shared object; a member of a lib group is always read as an object
abbrev pub is_read_as_shared : ℕ → List ℕ → Bool
is_read_as_shared lib bytes = lib == 0 && is_shared (kind_of bytes)

-- what a file holds, read as a shared object or as an object
abbrev pub summary_by : Bool → List ℕ → Elf → InputSummary
summary_by true path elf = shared_summary_in path elf
summary_by false path elf = summary_in elf

-- an input as it was read
abbrev pub input_with : ℕ → FoundInput → Elf → Input
input_with occurrence found elf = record {
  path = found.path;
  occurrence = occurrence;
  lib = found.lib;
  mark = found.word.mark;
  stamp = found.file.stamp;
  elf = elf;
  summary = summary_by (is_read_as_shared found.lib found.file.bytes) found.path elf;
}

-- how many of these paths are this one
abbrev pub count_of : List ℕ → List (List ℕ) → ℕ
count_of path paths = length (filter (bytes_eq path) paths)

-- the inputs after those with these paths
unfoldable pub inputs_after : List (List ℕ) → List FoundInput → List Input
inputs_after earlier [] = []
inputs_after earlier (found ∷ others) =
    input_with (count_of found.path earlier) found (elf_of found.file.bytes)
    ∷ inputs_after (found.path ∷ earlier) others

-- the inputs of a command whose files are there, in command order
unfoldable pub inputs_of : Command → FileMap → List Input
inputs_of command files = inputs_after [] (filter_map (found_in command files) (input_words command))

-- ---- what is read of the inputs

-- an input that is read as a shared object
unfoldable pub reads_as_shared : Input → Bool
reads_as_shared input = is_read_as_shared input.lib input.elf.bytes

-- the fault of a file, read as a shared object or as an object
abbrev pub fault_by : Bool → List ℕ → Option InputFault
fault_by true bytes = shared_fault bytes
fault_by false bytes = object_fault bytes

-- the fault of an input
unfoldable pub input_fault_in : Input → Option Fault
input_fault_in input =
    option_map (λ (fault : InputFault). faults.Input input.path fault)
    (fault_by (is_read_as_shared input.lib input.elf.bytes) input.elf.bytes)

-- all faults of inputs, in command order
unfoldable pub input_faults_of : List Input → List Fault
input_faults_of inputs = filter_map input_fault_in inputs
