-- What is said of the words of a link (this project's own): which inputs are added, with their numbers and
-- paths, how many there are, and how many names.
use Rattle.std.specs.Prelude.{◌≡◌, ℕ, List, [], ◌++◌, codes, flat_map, get_or, length, Result, Ok, Err}
use Rattle.std.specs.Fmt.{decimal}
use Rattle.lk_report.specs.FileMap.{FileMap}
use Rattle.lk_report.specs.declared.statuses.Status.{Status}
use Rattle.lk_report.specs.declared.statuses.Status.TheVariants as status
use Rattle.lk_resolve.specs.Settling.{ResolutionValue}
use Rattle.lk_probe.specs.Resolving.{WordsGive}

-- the line of an input that is added
abbrev pub added_line : List (List ℕ) → ℕ → List ℕ
added_line paths input = codes "added " ++ decimal input ++ codes " " ++ get_or paths input [] ++ codes "\n"

-- the lines of all of them, in adding order
abbrev pub added_lines : ResolutionValue → List ℕ
added_lines resolution = flat_map (added_line resolution.paths) resolution.added

-- what is said of what the inputs decide
abbrev pub resolution_text : ResolutionValue → List ℕ
resolution_text resolution =
    added_lines resolution
    ++ decimal (length resolution.added) ++ codes " of " ++ decimal (length resolution.paths) ++ codes " inputs, "
    ++ decimal (length resolution.rows) ++ codes " names\n"

-- what is said is the text of what the inputs of the words decide; a status in its place is the one that
-- they have, or out of memory
abbrev pub Reports : List (List ℕ) → FileMap → Result (List ℕ) Status → Type 0
Reports words there (Ok text) = (resolution : ResolutionValue) × WordsGive words there (Ok resolution) × (text ≡ resolution_text resolution)
Reports words there (Err status.NoMemory) = Unit {0}
Reports words there (Err s) = WordsGive words there (Err s)
