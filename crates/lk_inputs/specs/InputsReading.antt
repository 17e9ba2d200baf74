-- This project's own: what looking up and reading the inputs of a command answer, and what they do to the files.
use Rattle.std.specs.Prelude.{◌≡◌, ◌≤◌, ◌^◌, All, Contains, false, length, List, map, IsSome, None, Some, Result, IfOk, OnOk}
use Rattle.std.specs.List.{AllByRecursion}
use Rattle.lk_report.specs.FileMap.{FileMap}
use Rattle.lk_report.specs.declared.statuses.Status.{Status}
use Rattle.lk_model.specs.Inputs.{input_words}
use Rattle.lk_model.specs.declared.commands.Command.{Command}
use Rattle.lk_model.specs.declared.input_names.InputName.{InputName}
use Rattle.lk_outside.specs.FilesState.{FilesState}
use Rattle.lk_inputs.specs.Asked.{AreSound, AskedInTurn, CommandAsked, FilesAsked, IsOfFiles, IsOfReading, IsOfReads, LimitFirst, LookUpsAsked, StatusLast, StatusMisses, StatusNamed, all_places, file_name, has_library, known_stats, look_ups_of, name_path}
use Rattle.lk_inputs.specs.FileAnswers.{StatusCounts, known_map, known_reads, reads_with}
use Rattle.lk_inputs.specs.FileNumbers.{FileFits}
use Rattle.lk_inputs.specs.FilesRead.{NamedGive, ReadsGive}
use Rattle.lk_inputs.specs.LookUps.{LookUpsGive, inputs_limit}
use Rattle.lk_inputs.specs.Named.{file_path}
use Rattle.lk_inputs.specs.Refusals.{CommandInputs}
use Rattle.lk_inputs.specs.declared.input_files.InputFile.{InputFile}
use Rattle.lk_inputs.specs.declared.inputs.Inputs.{Inputs}

-- the inputs of a command were looked up, or are refused, and this became of the files
pub record InputsLookedUp (command : Command) (old : FilesState) (result : Result (List InputName) Status) (new : FilesState) : Type 0 where
  -- the files keep their map, and nothing is read
  pub kept : known_map new ≡ known_map old
  pub unread : known_reads new ≡ known_reads old
  -- by that map these are the names of the command's inputs, or the inputs that are missing
  pub reported : (there : FileMap) → known_map old ≡ Some there → LookUpsGive command there result
  -- more inputs than 4,096 are reported first, before anything is asked of the files
  pub first : LimitFirst (inputs_limit command) result
  pub limit : IsSome (inputs_limit command) → new ≡ old
  pub few : OnOk result (inputs_limit command ≡ None)
  -- the status is one of those that reading inputs has
  pub kinds : IsOfReading command result
  -- a failed call is reported only where the files counted a fault, of a path where an input is looked for
  pub faults : StatusCounts old result new
  pub named : StatusNamed (all_places command) result
  -- the last call that failed is the same where none failed
  pub last : StatusLast old result new
  -- a missing input is reported only where the files counted one
  pub misses : has_library (input_words command) ≡ false → StatusMisses old result new
  -- each place is looked up in turn, up to the first that has a file, in command order
  pub asked : (there : FileMap) → known_map old ≡ Some there → LookUpsAsked (known_stats old) (look_ups_of command there) result (known_stats new)
  -- there are 4,096 inputs at most, each at one of the places where it is looked for
  pub placed : IfOk result (λ names. AllByRecursion (λ (name : InputName). Contains (all_places command) name.path) names)
  pub within : IfOk result (λ names. length names ≤ 4096)

-- the files of inputs were read, or one of them is refused, and this became of the files
pub record InputFilesRead (names : List InputName) (old : FilesState) (result : Result (List InputFile) Status) (new : FilesState) : Type 0 where
  -- the files keep their map, and nothing is looked up
  pub kept : known_map new ≡ known_map old
  pub unlooked : known_stats new ≡ known_stats old
  -- by that map these are the files of the inputs, or this is the first limit on their sizes that is exceeded
  pub reported : (there : FileMap) → known_map old ≡ Some there → ReadsGive there names result
  -- the status is one of those that reads have
  pub kinds : IsOfReads result
  -- a failed call is reported only where the files counted a fault, of the path of an input
  pub faults : StatusCounts old result new
  pub named : StatusNamed (map name_path names) result
  -- the last call that failed is the same where none failed
  pub last : StatusLast old result new
  -- a file that went away is reported only where the files counted one
  pub misses : StatusMisses old result new
  -- each file is read once, in command order
  pub asked : AskedInTurn (known_reads old) (map name_path names) result (known_reads new)
  pub reads : IfOk result (λ inputs. known_reads new ≡ reads_with (map file_path inputs) (known_reads old))
  pub files : IfOk result (λ inputs. map file_name inputs ≡ names)
  -- each file has 64 MiB at most, and its numbers fit their widths
  pub short : IfOk result (λ inputs. All (λ (file : InputFile). length file.bytes ≤ 2 ^ 26) inputs)
  pub fit : IfOk result (λ inputs. All FileFits inputs)

-- the files of inputs were read and summarized, or are refused, and this became of the files
pub record NamedRead (names : List InputName) (old : FilesState) (result : Result Inputs Status) (new : FilesState) : Type 0 where
  -- the files keep their map, and nothing is looked up
  pub kept : known_map new ≡ known_map old
  pub unlooked : known_stats new ≡ known_stats old
  -- by that map these are the files and the summaries of the inputs, or this is the first refusal of them
  pub reported : (there : FileMap) → known_map old ≡ Some there → NamedGive there names result
  -- the status is one of those that reading files has
  pub kinds : IsOfFiles result
  -- a failed call is reported only where the files counted a fault, of the path of an input
  pub faults : StatusCounts old result new
  pub named : StatusNamed (map name_path names) result
  -- the last call that failed is the same where none failed
  pub last : StatusLast old result new
  -- a file that went away is reported only where the files counted one
  pub misses : StatusMisses old result new
  -- each file is read once, in command order
  pub asked : FilesAsked (known_reads old) (map name_path names) result (known_reads new)
  pub reads : IfOk result (λ inputs. known_reads new ≡ reads_with (map file_path inputs.files) (known_reads old))
  pub files : IfOk result (λ inputs. map file_name inputs.files ≡ names)
  -- none of the inputs is a shared object or has a fault; each has its summary
  pub sound : IfOk result AreSound
  pub alike : IfOk result (λ inputs. length inputs.files ≡ length inputs.summaries)
  -- each file has 64 MiB at most, and its numbers fit their widths
  pub short : IfOk result (λ inputs. All (λ (file : InputFile). length file.bytes ≤ 2 ^ 26) inputs.files)
  pub fit : IfOk result (λ inputs. All FileFits inputs.files)

-- the inputs of a command were read, or are refused, and this became of the files
pub record InputsRead (command : Command) (old : FilesState) (result : Result Inputs Status) (new : FilesState) : Type 0 where
  -- the files keep their map
  pub kept : known_map new ≡ known_map old
  -- by that map these are the command's inputs, or this is the first refusal of them
  pub reported : (there : FileMap) → known_map old ≡ Some there → CommandInputs (inputs_limit command) command there result
  -- more inputs than 4,096 are reported first, before anything is asked of the files
  pub first : LimitFirst (inputs_limit command) result
  pub limit : IsSome (inputs_limit command) → new ≡ old
  -- the status is one of those that reading inputs has
  pub kinds : IsOfReading command result
  -- a failed call is reported only where the files counted a fault, of a path where an input is looked for
  pub faults : StatusCounts old result new
  pub named : StatusNamed (all_places command) result
  -- the last call that failed is the same where none failed
  pub last : StatusLast old result new
  -- a missing input is reported only where the files counted one
  pub misses : has_library (input_words command) ≡ false → StatusMisses old result new
  -- each place is looked up in turn, up to the first that has a file, and each input is read once, in command order
  pub asked : (there : FileMap) → known_map old ≡ Some there → CommandAsked command there old result new
  pub reads : IfOk result (λ inputs. known_reads new ≡ reads_with (map file_path inputs.files) (known_reads old))
  -- none of the inputs is a shared object or has a fault; each has its summary
  pub sound : IfOk result AreSound
  pub alike : IfOk result (λ inputs. length inputs.files ≡ length inputs.summaries)
  -- each input is at one of the places where it is looked for
  pub placed : IfOk result (λ inputs. AllByRecursion (λ (file : InputFile). Contains (all_places command) file.name.path) inputs.files)
  -- there are 4,096 inputs at most, of 64 MiB at most each, whose numbers fit their widths
  pub few : IfOk result (λ inputs. length inputs.files ≤ 4096)
  pub short : IfOk result (λ inputs. All (λ (file : InputFile). length file.bytes ≤ 2 ^ 26) inputs.files)
  pub fit : IfOk result (λ inputs. All FileFits inputs.files)
