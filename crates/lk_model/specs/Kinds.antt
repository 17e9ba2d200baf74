-- What a file is, by its first bytes (gABI "ELF Identification", "ELF Header"); the names of the
-- refusals and their order are this project's own.
use Rattle.std.specs.Prelude.{ℕ, ◌==◌, Bool, not, ◌&&◌, ◌||◌, if◌then◌else◌, nat_eq, nat_lt, nat_le, List, [], ◌∷◌, length, take, slice_index, codes, Option, Some, None, Result, Ok, Err}
use Rattle.std.specs.List.{list_all, starts_with}
use Rattle.lk_elf.specs.Numbers.{elfmag, ei_class, ei_data, ei_version, elfclass64, elfdata2lsb, ev_current, et_rel, et_dyn, em_x86_64, ehdr_size}
use Rattle.lk_elf.specs.Records.{ehdr_at}
use Rattle.lk_elf.specs.declared.file_header.Ehdr.{Ehdr}
use Rattle.lk_report.specs.declared.faults.InputFault.{InputFault}
use Rattle.lk_report.specs.declared.faults.InputFault.TheVariants.{Archive, Script, NotElf, WrongClass, WrongMachine, WrongType}
use Rattle.lk_model.specs.declared.summaries.Kind.{Kind}
use Rattle.lk_model.specs.declared.summaries.Kind.TheVariants.{Object, Shared}
use Rattle.lk_model.specs.Checks.{first_fault}

-- an archive, or a thin one
abbrev pub is_archive : List ℕ → Bool
is_archive bytes = starts_with nat_eq bytes (codes "!<arch>") || starts_with nat_eq bytes (codes "!<thin>")

-- the magic bytes are in front
abbrev pub has_magic : List ℕ → Bool
has_magic bytes = starts_with nat_eq bytes elfmag

-- a byte of a text: a tab, the end of a line, or a printed character
abbrev pub is_text_byte : ℕ → Bool
is_text_byte b = b == 9 || b == 10 || b == 13 || (nat_le 32 b && nat_le b 126)

-- a text: it is not empty, and its first four bytes, or all where there are fewer, are of a text
abbrev pub is_text : List ℕ → Bool
is_text bytes = nat_lt 0 (length bytes) && list_all is_text_byte (take 4 bytes)

-- class, byte order and version are those of this linker
abbrev pub is_known_class : Ehdr → Bool
is_known_class header =
    slice_index header.e_ident ei_class == elfclass64
    && slice_index header.e_ident ei_data == elfdata2lsb
    && slice_index header.e_ident ei_version == ev_current

-- the checks of a header
unfoldable pub header_checks : Ehdr → List (Bool × InputFault)
header_checks header =
    (not (is_known_class header), WrongClass)
    ∷ (not (header.e_machine == em_x86_64), WrongMachine)
    ∷ (not (header.e_type == et_rel || header.e_type == et_dyn), WrongType)
    ∷ []

-- the checks of what a file is
unfoldable pub kind_checks : List ℕ → List (Bool × InputFault)
kind_checks bytes =
    (is_archive bytes, Archive)
    ∷ (not (has_magic bytes) && is_text bytes, Script)
    ∷ (not (has_magic bytes), NotElf)
    ∷ (nat_lt (length bytes) ehdr_size, NotElf)
    ∷ header_checks (ehdr_at bytes 0)

-- a relocatable or a shared object, where no check failed
abbrev pub kind_with : Option InputFault → Ehdr → Result Kind InputFault
kind_with (Some fault) header = Err fault
kind_with None header = Ok (if header.e_type == et_rel then Object else Shared)

-- what a file is, or the fault of the first check that fails
unfoldable pub kind_of : List ℕ → Result Kind InputFault
kind_of bytes = kind_with (first_fault (kind_checks bytes)) (ehdr_at bytes 0)
