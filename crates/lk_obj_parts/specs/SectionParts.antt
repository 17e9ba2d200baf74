-- The checks of a section in two parts (gABI "Sections"): the range of its bytes and its alignment; and its name, type
-- and flags. One after the other they are the checks of a section.
use Rattle.std.specs.Prelude.{ℕ, ◌==◌, Bool, not, ◌&&◌, ◌||◌, List, [], ◌∷◌, Option, is_none, flat_map}
use Rattle.std.specs.List.{enumerate_from}
use Rattle.lk_elf.specs.Numbers.{sht_null, sht_nobits}
use Rattle.lk_elf.specs.declared.section_header.Shdr.{Shdr}
use Rattle.lk_report.specs.declared.faults.InputFault.{InputFault}
use Rattle.lk_report.specs.declared.faults.InputFault.TheVariants.{BadTable, BadName, Compressed, UnsupportedSection, UnknownAlloc}
use Rattle.lk_model.specs.Checks.{first_fault, is_some_with}
use Rattle.lk_model.specs.Elf.{lies_in}
use Rattle.lk_model.specs.ObjectChecks.{is_alignment, is_compressed, is_unsupported, is_unknown_alloc, section_checks}
use Rattle.lk_model.specs.Views.{Elf}

-- a section whose bytes these of a file do not hold
abbrev pub is_cut_off_in : List ℕ → Shdr → Bool
is_cut_off_in bytes header =
    not (header.sh_type == sht_null || header.sh_type == sht_nobits)
    && not (lies_in bytes header.sh_offset header.sh_size)

-- the checks of the range of a section's bytes and of its alignment
unfoldable pub place_checks : List ℕ → ℕ → Shdr → List (Bool × InputFault)
place_checks bytes n header =
    (is_cut_off_in bytes header, BadTable n)
    ∷ (not (is_alignment header.sh_addralign), BadTable n)
    ∷ []

-- the checks of the type and flags of a section with this name
unfoldable pub named_checks : ℕ → Shdr → List ℕ → List (Bool × InputFault)
named_checks n header name =
    (is_compressed header name, Compressed n)
    ∷ (is_unsupported header name, UnsupportedSection n)
    ∷ (is_unknown_alloc header, UnknownAlloc n)
    ∷ []

-- the checks of the name, type and flags of a section
unfoldable pub name_checks : ℕ → Shdr → Option (List ℕ) → List (Bool × InputFault)
name_checks n header name =
    (is_none name, BadName n)
    ∷ (is_some_with (is_compressed header) name, Compressed n)
    ∷ (is_some_with (is_unsupported header) name, UnsupportedSection n)
    ∷ (is_unknown_alloc header, UnknownAlloc n)
    ∷ []

-- the first fault of these sections, the first of which has this number
abbrev pub faults_from : Elf → ℕ → List Shdr → Option InputFault
faults_from elf n headers = first_fault (flat_map (section_checks elf) (enumerate_from n headers))
