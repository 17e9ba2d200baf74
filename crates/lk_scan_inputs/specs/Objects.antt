-- This project's own: the objects of a link by the numbers of its inputs.
use Rattle.std.specs.Prelude.{◌≡◌, ℕ, ◌+◌, Bool, cond, List, [], ◌∷◌, ◌++◌, map, Option, Some, None}
use Rattle.std.specs.List.{AllByRecursion}
use Rattle.lk_model.specs.Elf.{elf_of}
use Rattle.lk_model.specs.Numbered.{is_number_in}
use Rattle.lk_model.specs.ObjectChecks.{object_fault}
use Rattle.lk_model.specs.Objects.{summary_in}
use Rattle.lk_model.specs.Views.{Input}
use Rattle.lk_inputs.specs.declared.input_files.InputFile.{InputFile}
use Rattle.lk_model.specs.declared.input_names.InputName.{InputName}
use Rattle.lk_scan_inputs.specs.declared.object_reading.LinkObjects.{LinkObjects}

-- an input that is an object without a fault, as it was read of its file
pub record IsObject (x : Input) : Type 0 where
  pub file : x.elf ≡ elf_of x.elf.bytes
  pub summary : x.summary ≡ summary_in x.elf
  pub no_fault : object_fault x.elf.bytes ≡ None

-- all inputs are objects without a fault
abbrev pub AreObjects : List Input → Type 0
AreObjects xs = AllByRecursion IsObject xs

-- the objects of marked files, and none of others
abbrev pub marked_objects : List Bool → List InputFile → List (Option (List ℕ))
marked_objects [] files = []
marked_objects (mark ∷ marks) [] = []
marked_objects (mark ∷ marks) (file ∷ files) = cond mark (Some file.bytes) None ∷ marked_objects marks files

-- the object of each added input, seen as the bytes of its file, and none of another; numbers go on from a
-- first one
abbrev pub objects_from : ℕ → List ℕ → List InputFile → List (Option (List ℕ))
objects_from n added [] = []
objects_from n added (file ∷ files) = cond (is_number_in added n) (Some file.bytes) None ∷ objects_from (n + 1) added files

abbrev pub objects_of : List ℕ → List InputFile → List (Option (List ℕ))
objects_of added files = objects_from 0 added files

-- the names of the inputs of files
abbrev pub input_name : InputFile → InputName
input_name file = file.name

abbrev pub input_names : List InputFile → List InputName
input_names files = map input_name files

-- the names and objects of inputs, with one more input; it has its object where it is added
abbrev pub with_input : LinkObjects → Bool → InputFile → LinkObjects
with_input read mark file = record { names = read.names ++ file.name ∷ []; objects = read.objects ++ cond mark (Some file.bytes) None ∷ [] }

-- the names of the inputs of files, and these objects
abbrev pub HasObjects : List (Option (List ℕ)) → List InputFile → LinkObjects → Type 0
HasObjects objects files read = (read.names ≡ input_names files) × (read.objects ≡ objects)
