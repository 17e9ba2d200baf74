-- This project's own: the words of a command's inputs and the inputs that they name, as code has them.
use Rattle.std.specs.Prelude.{ℕ, List, map, filter_map, Option, option_map}
use Rattle.lk_report.specs.FileMap.{FileMap}
use Rattle.lk_model.specs.declared.commands.Command.{Command}
use Rattle.lk_model.specs.declared.commands.Word.{Word}
use Rattle.lk_model.specs.Inputs.{FoundInput, found_in, input_words}
use Rattle.lk_model.specs.InputNames.{name_of}
use Rattle.lk_model.specs.Views.{Input}
use Rattle.lk_inputs.specs.declared.input_files.InputFile.{InputFile}
use Rattle.lk_model.specs.declared.input_names.InputName.{InputName}
use Rattle.lk_inputs.specs.declared.input_words.InputWord.{InputWord}

-- an input's word with the number of its lib group
abbrev pub word_seen : InputWord → ℕ × Word
word_seen row = (row.lib, row.word.now)

abbrev pub words_seen : List InputWord → List (ℕ × Word)
words_seen rows = map word_seen rows

-- a word of a lib group
abbrev pub in_lib : ℕ → Word → ℕ × Word
in_lib lib word = (lib, word)

-- what is known of an input whose file is there, before the file is read
abbrev pub name_found : FoundInput → InputName
name_found found = record { path = found.path; lib = found.lib; mark = found.word.mark; stamp = found.file.stamp }

-- a word whose file is there
abbrev pub named_in : Command → FileMap → ℕ × Word → Option InputName
named_in command there row = option_map name_found (found_in command there row)

-- the inputs that a command's words name, where their files are there
abbrev pub names_in : Command → FileMap → List InputName
names_in command there = map name_found (filter_map (found_in command there) (input_words command))

-- what code has of an input: its name with the file's bytes
abbrev pub file_of : Input → InputFile
file_of x = record { name = name_of x; bytes = x.elf.bytes }

abbrev pub files_of : List Input → List InputFile
files_of xs = map file_of xs

-- the path of an input
abbrev pub file_path : InputFile → List ℕ
file_path file = file.name.path
