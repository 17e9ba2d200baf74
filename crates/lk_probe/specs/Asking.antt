-- This project's own: what the program's arguments ask for.
use Rattle.std.specs.Prelude.{ℕ, List, [], ◌∷◌, codes, Option, Some, None, option_map, if◌then◌else◌}
use Rattle.std.specs.Str.{bytes_eq}
use Rattle.lk_probe.specs.declared.arguments.Asked.{Asked}
use Rattle.lk_probe.specs.declared.arguments.Asked.TheVariants as asked

-- the file that one word alone names
abbrev pub file_in : List (List ℕ) → Option (List ℕ)
file_in (path ∷ []) = Some path
file_in other = None

-- the file that is to be read
abbrev pub file_asked : List (List ℕ) → Option Asked
file_asked rest = option_map (λ (path : List ℕ). asked.Read path) (file_in rest)

-- the file that is to be loaded
abbrev pub image_asked : List (List ℕ) → Option Asked
image_asked rest = option_map (λ (path : List ℕ). asked.Load path) (file_in rest)

-- the first word says what is asked for, of the words after it
abbrev pub asked_by : List ℕ → List (List ℕ) → Option Asked
asked_by word rest =
    if bytes_eq word (codes "read") then file_asked rest
    else if bytes_eq word (codes "load") then image_asked rest
    else if bytes_eq word (codes "resolve") then Some (asked.Resolve rest)
    else if bytes_eq word (codes "layout") then Some (asked.Layout rest)
    else None

-- what the words after the program's name ask for; nothing where the program does not know them
abbrev pub asked_in : List (List ℕ) → Option Asked
asked_in (word ∷ rest) = asked_by word rest
asked_in [] = None
