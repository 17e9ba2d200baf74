-- This project's own: the inputs of a link, file by file with its summary, and how one item of them is added: an
-- input outside a lib group, or a lib group.
use Rattle.std.specs.Prelude.{◌≡◌, ◌+◌, ◌==◌, ℕ, Bool, List, [], ◌∷◌, map, take, drop, length, take_while, Option, Some}
use Rattle.lk_model.specs.declared.summaries.InputSummary.{InputSummary}
use Rattle.lk_model.specs.Adding.{items_among, with_item}
use Rattle.lk_model.specs.Numbered.{Numbered}
use Rattle.lk_inputs.specs.declared.input_files.InputFile.{InputFile}
use Rattle.lk_resolve.specs.States.{State, state_of}

-- inputs with their numbers, which go on from a first one, and their lib groups
abbrev pub rows_from : ℕ → List InputFile → List InputSummary → List (ℕ × Numbered)
rows_from n [] summaries = []
rows_from n (file ∷ files) [] = []
rows_from n (file ∷ files) (summary ∷ summaries) = (file.name.lib, record { number = n; summary = summary }) ∷ rows_from (n + 1) files summaries

-- the numbered inputs of rows
abbrev pub members_in : List (ℕ × Numbered) → List Numbered
members_in rows = map (λ (row : ℕ × Numbered). row.1) rows

-- whether a file is a member of a lib group
abbrev pub is_in_lib : ℕ → InputFile → Bool
is_in_lib lib file = file.name.lib == lib

-- how many files in front are members of it
abbrev pub lib_length : ℕ → List InputFile → ℕ
lib_length lib files = length (take_while (is_in_lib lib) files)

-- so many rows in front as one item
abbrev pub item_at : ℕ → List (ℕ × Numbered) → ℕ × List Numbered
item_at count [] = (0, [])
item_at count (row ∷ rows) = (row.0, members_in (take count (row ∷ rows)))

-- after these inputs the first item of the rows was added, which is so many rows long
pub record IsItemAdded (entry : List ℕ) (paths : List (List ℕ)) (added : List Numbered) (rows : List (ℕ × Numbered)) (count : ℕ) (new : Option State) : Type 0 where
  pub state : new ≡ Some (state_of entry paths (with_item entry added (item_at count rows)))
  pub items : items_among rows ≡ item_at count rows ∷ items_among (drop count rows)
