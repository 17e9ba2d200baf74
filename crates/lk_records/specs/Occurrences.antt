-- This project's own: how many inputs before it have the path of an input, and a map that counts paths.
use Rattle.std.specs.Prelude.{◌≡◌, ◌+◌, ℕ, if◌then◌else◌, List, [], ◌∷◌, map, unwrap_or}
use Rattle.std.specs.Borrow.{Bor}
use Rattle.std.specs.Map.{lookup}
use Rattle.std.specs.Str.{bytes_eq}
use Rattle.lk_report.specs.FileMap.{FileMap}
use Rattle.lk_model.specs.declared.commands.Command.{Command}
use Rattle.lk_model.specs.Inputs.{count_of, inputs_of}
use Rattle.lk_model.specs.Resolving.{paths_of}
use Rattle.lk_model.specs.Views.{Input}
use Rattle.lk_model.specs.declared.input_names.InputName.{InputName}

-- the path of an input, by the code's `InputName`
abbrev pub name_path : InputName → List ℕ
name_path name = name.path

-- for each path how many equal ones are before it, where `earlier` come before the first
abbrev pub occurrences_after : List (List ℕ) → List (List ℕ) → List ℕ
occurrences_after earlier [] = []
occurrences_after earlier (path ∷ paths) = count_of path earlier ∷ occurrences_after (path ∷ earlier) paths

-- the occurrence of each input is the number of inputs before it that have its path
abbrev pub occurrence_of : Input → ℕ
occurrence_of x = x.occurrence

abbrev pub OccurrencesAreRight : List Input → Type 0
OccurrencesAreRight xs = map occurrence_of xs ≡ occurrences_after [] (paths_of xs)

-- the occurrences of the inputs of every command are right
abbrev pub CommandsAreCounted : Type 0
CommandsAreCounted = (command : Command) (files : FileMap) → OccurrencesAreRight (inputs_of command files)

-- the count that a map has for a path
abbrev pub count_under : List (Bor (List ℕ) × ℕ) → List ℕ → ℕ
count_under entries path = unwrap_or (lookup (λ (key : Bor (List ℕ)). bytes_eq path key.now) entries) 0

-- the counts of paths once this one was noted
abbrev pub with_path : (List ℕ → ℕ) → List ℕ → List ℕ → ℕ
with_path counts path other = if bytes_eq other path then counts other + 1 else counts other

-- the count of each path when it is reached, where counts go up as paths are passed
abbrev pub occurrences_by : (List ℕ → ℕ) → List (List ℕ) → List ℕ
occurrences_by counts [] = []
occurrences_by counts (path ∷ paths) = counts path ∷ occurrences_by (with_path counts path) paths

-- a path was noted: `count` is its count before, and only its count is one greater after
abbrev pub PathNoted : List (Bor (List ℕ) × ℕ) → List ℕ → ℕ → List (Bor (List ℕ) × ℕ) → Type 0
PathNoted before path count after =
    (count ≡ count_under before path) × ((other : List ℕ) → count_under after other ≡ with_path (count_under before) path other)
