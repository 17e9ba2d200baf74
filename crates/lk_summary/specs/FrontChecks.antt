-- What a file is, in two steps (gABI "ELF Identification", "ELF Header"): the checks of its first bytes,
-- before its header is looked at, and the checks of the header.
use Rattle.std.specs.Prelude.{ℕ, Bool, not, ◌&&◌, List, [], ◌∷◌, length, nat_lt, Option, Some, None, Result, Ok, Err}
use Rattle.lk_elf.specs.Numbers.{ehdr_size}
use Rattle.lk_elf.specs.Records.{ehdr_at}
use Rattle.lk_elf.specs.declared.file_header.Ehdr.{Ehdr}
use Rattle.lk_report.specs.declared.faults.InputFault.{InputFault}
use Rattle.lk_report.specs.declared.faults.InputFault.TheVariants.{Archive, Script, NotElf}
use Rattle.lk_model.specs.Checks.{first_fault}
use Rattle.lk_model.specs.Kinds.{is_archive, has_magic, is_text, header_checks, kind_with}
use Rattle.lk_model.specs.declared.summaries.Kind.{Kind}

-- the checks of the first bytes
abbrev pub front_checks : List ℕ → List (Bool × InputFault)
front_checks bytes =
    (is_archive bytes, Archive)
    ∷ (not (has_magic bytes) && is_text bytes, Script)
    ∷ (not (has_magic bytes), NotElf)
    ∷ (nat_lt (length bytes) ehdr_size, NotElf)
    ∷ []

-- a header, where no check of the first bytes failed
abbrev pub header_with : Option InputFault → Ehdr → Result Ehdr InputFault
header_with (Some fault) header = Err fault
header_with None header = Ok header

-- the header of a file, or the fault of the first check of its first bytes that fails
abbrev pub header_of : List ℕ → Result Ehdr InputFault
header_of bytes = header_with (first_fault (front_checks bytes)) (ehdr_at bytes 0)

-- a relocatable or a shared object by its header, or the fault of the first check of it that fails
abbrev pub kind_under : Ehdr → Result Kind InputFault
kind_under header = kind_with (first_fault (header_checks header)) header
