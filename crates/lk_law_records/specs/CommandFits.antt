-- What a command and its files keep to so that a link of them can be recorded (this project's own).
use Rattle.std.specs.Prelude.{◌≡◌, ℕ, ◌^◌, ◌<◌, false, List, length, None, Some}
use Rattle.std.specs.List.{All, AllByRecursion}
use Rattle.lk_report.specs.FileMap.{FileMap, FileRow}
use Rattle.lk_model.specs.Inputs.{input_words, inputs_of, is_read_as_shared}
use Rattle.lk_model.specs.ObjectChecks.{object_fault}
use Rattle.lk_model.specs.Views.{Input}
use Rattle.lk_model.specs.declared.commands.Command.{Command}
use Rattle.lk_model.specs.declared.commands.Word.{Word}
use Rattle.lk_law_records.specs.Recordable.{OptionsFit, StampFits, has_zero}

-- a command whose texts hold no zero byte
pub record CommandFits (c : Command) : Type 0 where
  pub options : OptionsFit c.options
  pub items : length c.items < 2 ^ 31
  pub count : length (input_words c) < 2 ^ 32
  pub words : AllByRecursion (λ (row : ℕ × Word). has_zero row.1.text ≡ false) (input_words c)
  pub dirs : AllByRecursion (λ dir. has_zero dir ≡ false) c.dirs

-- a file of bytes, whose stamp fits
pub record FileFits (row : FileRow) : Type 0 where
  pub bytes : All (λ b. b < 256) row.bytes
  pub stamp : StampFits row.stamp

abbrev pub FilesFit : FileMap → Type 0
FilesFit files = (path : List ℕ) (row : FileRow) → files path ≡ Some row → FileFits row

-- an input that is not too long, and without a fault where it is read as an object
pub record IsSound (i : Input) : Type 0 where
  pub size : length i.elf.bytes < 2 ^ 32
  pub fault : is_read_as_shared i.lib i.elf.bytes ≡ false → object_fault i.elf.bytes ≡ None

abbrev pub AreSound : Command → FileMap → Type 0
AreSound c files = AllByRecursion IsSound (inputs_of c files)
