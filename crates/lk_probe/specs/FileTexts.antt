-- What is said of the file of a path (this project's own): of an object the numbers of its section headers and
-- of the entries of its symbol table, of a shared object its facts; its first fault, or its length, as the linker
-- reports them; that there is no file.
use Rattle.std.specs.Prelude.{◌≡◌, ◌<◌, ◌≤◌, ℕ, ◌^◌, List, [], ◌∷◌, ◌++◌, codes, length, Some, None, option_map, Result, Ok, Err}
use Rattle.std.specs.Fmt.{decimal}
use Rattle.lk_report.specs.FileMap.{FileMap}
use Rattle.lk_report.specs.declared.faults.Fault.{Fault}
use Rattle.lk_report.specs.declared.faults.Fault.TheVariants as fault
use Rattle.lk_report.specs.declared.faults.InputFault.{InputFault}
use Rattle.lk_report.specs.declared.statuses.LimitKind.TheVariants as limit
use Rattle.lk_report.specs.declared.statuses.Status.{Status}
use Rattle.lk_report.specs.declared.statuses.Status.TheVariants as status
use Rattle.lk_model.specs.declared.summaries.Kind.{Kind}
use Rattle.lk_model.specs.declared.summaries.Kind.TheVariants as kind
use Rattle.lk_model.specs.Kinds.{kind_of}
use Rattle.lk_inputs.specs.FileAnswers.{content_at}
use Rattle.lk_probe.specs.Judging.{headers_in, read_fault, symbol_count}
use Rattle.lk_probe.specs.SharedFacts.{facts_of, shared_text}

-- what is said of an object
abbrev pub object_text : ℕ → ℕ → List ℕ
object_text sections symbols = codes "object: " ++ decimal sections ++ codes " sections, " ++ decimal symbols ++ codes " symbols\n"

-- a text is said, for which out of memory may be
abbrev pub IsText : List ℕ → Result (List ℕ) Status → Type 0
IsText due (Ok text) = text ≡ due
IsText due (Err status.NoMemory) = Unit {0}
IsText due (Err _) = ⊥

-- one fault is reported, for which out of memory may be
abbrev pub IsOneFault : Fault → Status → Type 0
IsOneFault due (status.LinkError faults) = faults ≡ due ∷ []
IsOneFault due status.NoMemory = Unit {0}
IsOneFault due _ = ⊥

-- the text of a file without a fault, by its kind
abbrev pub IsTextOf : Result Kind InputFault → List ℕ → List ℕ → List ℕ → Type 0
IsTextOf (Err fault) path bytes text = ⊥
IsTextOf (Ok kind.Object) path bytes text = text ≡ object_text (length (headers_in bytes)) (symbol_count bytes)
IsTextOf (Ok kind.Shared) path bytes text = text ≡ shared_text (facts_of path bytes)

-- what is said of a file of these bytes; its faults, where it has one, are those of its first one
abbrev pub ReportsBytes : List ℕ → List ℕ → Result (List ℕ) Status → Type 0
ReportsBytes path bytes (Ok text) =
    (length bytes ≤ 2 ^ 26) × (read_fault bytes ≡ None) × IsTextOf (kind_of bytes) path bytes text
ReportsBytes path bytes (Err (status.LinkError faults)) =
    (length bytes ≤ 2 ^ 26) × (option_map (λ first. fault.Input path first ∷ []) (read_fault bytes) ≡ Some faults)
ReportsBytes path bytes (Err (status.Limit exceeded)) =
    (2 ^ 26 < length bytes) × (exceeded ≡ record { which = limit.InputSize; number = length bytes })
ReportsBytes path bytes (Err status.NoMemory) = Unit {0}
ReportsBytes path bytes (Err _) = ⊥

-- what is said of a path by the map of the files: a read that failed may be in its place
abbrev pub ReportsFile : List ℕ → FileMap → Result (List ℕ) Status → Type 0
ReportsFile path there (Ok text) = (bytes : List ℕ) × (content_at there path ≡ Some bytes) × ReportsBytes path bytes (Ok text)
ReportsFile path there (Err (status.LinkError faults)) =
    elim (content_at there path) [ Some bytes ↦ ReportsBytes path bytes (Err (status.LinkError faults)) | None ↦ faults ≡ fault.Missing path ∷ [] ]
ReportsFile path there (Err (status.ReadFault failed)) = failed ≡ path
ReportsFile path there (Err status.NoMemory) = Unit {0}
ReportsFile path there (Err s) = (bytes : List ℕ) × (content_at there path ≡ Some bytes) × ReportsBytes path bytes (Err s)
