-- What is said of the bytes of a file (this project's own): an object or a shared object exactly where no check of
-- what it is fails, an object with the numbers of its section headers and of the entries of its symbol table, a shared
-- object with its facts; else the first fault. A file of more than 64 MiB is not looked at.
use Rattle.std.specs.Prelude.{◌≡◌, ◌<◌, ◌≤◌, ℕ, ◌^◌, List, length, Option, Some, None, Result, Ok, Err}
use Rattle.lk_elf.specs.Numbers.{sht_symtab}
use Rattle.lk_elf.specs.Records.{ehdr_at}
use Rattle.lk_elf.specs.declared.section_header.Shdr.{Shdr}
use Rattle.lk_report.specs.declared.faults.InputFault.{InputFault}
use Rattle.lk_report.specs.declared.statuses.LimitKind.TheVariants as limit
use Rattle.lk_model.specs.Elf.{first_of_type, section_headers_of, symbols_of}
use Rattle.lk_model.specs.declared.summaries.Kind.{Kind}
use Rattle.lk_model.specs.declared.summaries.Kind.TheVariants as kind
use Rattle.lk_model.specs.Kinds.{kind_of}
use Rattle.lk_model.specs.ObjectChecks.{object_fault}
use Rattle.lk_model.specs.SharedChecks.{shared_fault}
use Rattle.lk_probe.specs.SharedFacts.{facts_of}
use Rattle.lk_probe.specs.declared.reading.Verdict.{Verdict}
use Rattle.lk_probe.specs.declared.reading.Verdict.TheVariants as verdict

-- the section headers of the file of these bytes
abbrev pub headers_in : List ℕ → List Shdr
headers_in bytes = section_headers_of bytes (ehdr_at bytes 0)

-- how many entries its symbol table has
abbrev pub symbol_count : List ℕ → ℕ
symbol_count bytes = length (symbols_of bytes (first_of_type sht_symtab (headers_in bytes)))

-- these numbers are those of the section headers and of the symbols
abbrev pub AreCounts : List ℕ → ℕ × ℕ → Type 0
AreCounts bytes (sections, symbols) = (sections ≡ length (headers_in bytes)) × (symbols ≡ symbol_count bytes)

-- the first fault of a file of this kind, or of one whose kind has this fault
abbrev pub fault_by_kind : Result Kind InputFault → List ℕ → Option InputFault
fault_by_kind (Err fault) bytes = Some fault
fault_by_kind (Ok kind.Object) bytes = object_fault bytes
fault_by_kind (Ok kind.Shared) bytes = shared_fault bytes

-- the first fault of a file that is read as what it is
abbrev pub read_fault : List ℕ → Option InputFault
read_fault bytes = fault_by_kind (kind_of bytes) bytes

-- what these bytes of a file at a path are
abbrev pub IsJudged : List ℕ → List ℕ → Verdict → Type 0
IsJudged path bytes (verdict.Object sections symbols) =
    (length bytes ≤ 2 ^ 26) × (kind_of bytes ≡ Ok kind.Object) × (object_fault bytes ≡ None) × AreCounts bytes (sections, symbols)
IsJudged path bytes (verdict.Shared facts) =
    (length bytes ≤ 2 ^ 26) × (kind_of bytes ≡ Ok kind.Shared) × (shared_fault bytes ≡ None) × (facts ≡ facts_of path bytes)
IsJudged path bytes (verdict.Faulty fault) = (length bytes ≤ 2 ^ 26) × (read_fault bytes ≡ Some fault)
IsJudged path bytes (verdict.TooLong fault) = (2 ^ 26 < length bytes) × (fault ≡ record { which = limit.InputSize; number = length bytes })
IsJudged path bytes verdict.NoMemory = Unit {0}
