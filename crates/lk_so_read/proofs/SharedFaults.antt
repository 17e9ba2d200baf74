-- The first fault of a shared object by the first faults of its parts.
use Rattle.std.specs.Prelude.{◌≡◌, refl, ℕ, Bool, List, ◌∷◌, ◌++◌, is_none, Option, Some, None, Ok, Err}
use Rattle.std.proofs.Common.{ap, ◌∙◌}
use Rattle.lk_elf.specs.Records.{ehdr_at}
use Rattle.lk_elf.specs.declared.section_header.Shdr.{Shdr}
use Rattle.lk_report.specs.declared.faults.InputFault.{InputFault}
use Rattle.lk_report.specs.declared.faults.InputFault.TheVariants.{NoDynamic}
use Rattle.lk_model.specs.declared.summaries.Kind.{Kind}
use Rattle.lk_model.specs.Checks.{first_fault}
use Rattle.lk_model.specs.Elf.{elf_of}
use Rattle.lk_model.specs.Kinds.{kind_checks, kind_of}
use Rattle.lk_model.specs.SharedChecks.{shared_checks, shared_fault, shared_fault_after, shared_header_checks, shared_name_checks, soname_checks, two_table_checks}
use Rattle.lk_model.specs.SharedObjects.{dynamic_section, dynamic_symbol_table}
use Rattle.lk_model.specs.Views.{Elf}
use Rattle.lk_obj_parts.proofs.FaultParts.{first_reported, then_reported}
use Rattle.lk_summary.proofs.KindsKnown.{after_kind, fault_of_kind}
use Rattle.lk_so_read.specs.SharedParts.{fit_checks, form_checks, front_checks}

-- ---- the two tables

module _ (elf : Elf) (symbols dynamic : ℕ × Shdr) where
  parts : two_table_checks elf (Some symbols) (Some dynamic) ≡ fit_checks elf symbols dynamic ++ form_checks elf symbols dynamic
  unfolding two_table_checks fit_checks form_checks
  parts = refl

  pub fit_stops : (f : InputFault) → first_fault (fit_checks elf symbols dynamic) ≡ Some f → first_fault (two_table_checks elf (Some symbols) (Some dynamic)) ≡ Some f
  fit_stops f e = ap first_fault parts ∙ first_reported (fit_checks elf symbols dynamic) (form_checks elf symbols dynamic) f e

  pub form_ends : first_fault (fit_checks elf symbols dynamic) ≡ None → first_fault (two_table_checks elf (Some symbols) (Some dynamic)) ≡ first_fault (form_checks elf symbols dynamic)
  form_ends e = ap first_fault parts ∙ then_reported (fit_checks elf symbols dynamic) (form_checks elf symbols dynamic) e

-- ---- before their entries

-- the checks after those of the section table
abbrev after_header : Elf → Option (ℕ × Shdr) → Option (ℕ × Shdr) → List (Bool × InputFault)
after_header elf symbols dynamic = (is_none symbols, NoDynamic) ∷ (is_none dynamic, NoDynamic) ∷ two_table_checks elf symbols dynamic

module _ (elf : Elf) where
  pub header_stops : (f : InputFault) → first_fault (shared_header_checks elf) ≡ Some f → first_fault (front_checks elf) ≡ Some f
  unfolding front_checks
  header_stops f e = first_reported (shared_header_checks elf) (after_header elf (dynamic_symbol_table elf) (dynamic_section elf)) f e

  header_passes : first_fault (shared_header_checks elf) ≡ None → first_fault (front_checks elf) ≡ first_fault (after_header elf (dynamic_symbol_table elf) (dynamic_section elf))
  unfolding front_checks
  header_passes e = then_reported (shared_header_checks elf) (after_header elf (dynamic_symbol_table elf) (dynamic_section elf)) e

  pub no_symbols : first_fault (shared_header_checks elf) ≡ None → dynamic_symbol_table elf ≡ None → first_fault (front_checks elf) ≡ Some NoDynamic
  no_symbols e s = header_passes e ∙ ap (λ o. first_fault (after_header elf o (dynamic_section elf))) s

  pub no_dynamic : (symbols : ℕ × Shdr) → first_fault (shared_header_checks elf) ≡ None → dynamic_symbol_table elf ≡ Some symbols → dynamic_section elf ≡ None → first_fault (front_checks elf) ≡ Some NoDynamic
  no_dynamic symbols e s d =
      header_passes e
      ∙ ap (λ o. first_fault (after_header elf o (dynamic_section elf))) s
      ∙ ap (λ o. first_fault (after_header elf (Some symbols) o)) d

  pub tables_end : (symbols dynamic : ℕ × Shdr) → first_fault (shared_header_checks elf) ≡ None → dynamic_symbol_table elf ≡ Some symbols → dynamic_section elf ≡ Some dynamic → first_fault (front_checks elf) ≡ first_fault (two_table_checks elf (Some symbols) (Some dynamic))
  tables_end symbols dynamic e s d =
      header_passes e
      ∙ ap (λ o. first_fault (after_header elf o (dynamic_section elf))) s
      ∙ ap (λ o. first_fault (after_header elf (Some symbols) o)) d

  -- ---- all checks

  all_parts : shared_checks elf ≡ front_checks elf ++ shared_name_checks elf (dynamic_symbol_table elf) ++ soname_checks elf (dynamic_section elf)
  unfolding shared_checks front_checks
  all_parts = refl

  pub front_stops : (f : InputFault) → first_fault (front_checks elf) ≡ Some f → first_fault (shared_checks elf) ≡ Some f
  front_stops f e =
      ap first_fault all_parts
      ∙ first_reported (front_checks elf ++ shared_name_checks elf (dynamic_symbol_table elf)) (soname_checks elf (dynamic_section elf)) f
      (first_reported (front_checks elf) (shared_name_checks elf (dynamic_symbol_table elf)) f e)

  names_reported : (symbols : ℕ × Shdr) → first_fault (front_checks elf) ≡ None → dynamic_symbol_table elf ≡ Some symbols → first_fault (front_checks elf ++ shared_name_checks elf (dynamic_symbol_table elf)) ≡ first_fault (shared_name_checks elf (Some symbols))
  names_reported symbols e s =
      then_reported (front_checks elf) (shared_name_checks elf (dynamic_symbol_table elf)) e
      ∙ ap (λ o. first_fault (shared_name_checks elf o)) s

  pub names_stop : (symbols : ℕ × Shdr) (f : InputFault) → first_fault (front_checks elf) ≡ None → dynamic_symbol_table elf ≡ Some symbols → first_fault (shared_name_checks elf (Some symbols)) ≡ Some f → first_fault (shared_checks elf) ≡ Some f
  names_stop symbols f e s n =
      ap first_fault all_parts
      ∙ first_reported (front_checks elf ++ shared_name_checks elf (dynamic_symbol_table elf)) (soname_checks elf (dynamic_section elf)) f
      (names_reported symbols e s ∙ n)

  pub soname_ends : (symbols dynamic : ℕ × Shdr) → first_fault (front_checks elf) ≡ None → dynamic_symbol_table elf ≡ Some symbols → dynamic_section elf ≡ Some dynamic → first_fault (shared_name_checks elf (Some symbols)) ≡ None → first_fault (shared_checks elf) ≡ first_fault (soname_checks elf (Some dynamic))
  soname_ends symbols dynamic e s d n =
      ap first_fault all_parts
      ∙ then_reported (front_checks elf ++ shared_name_checks elf (dynamic_symbol_table elf)) (soname_checks elf (dynamic_section elf))
      (names_reported symbols e s ∙ n)
      ∙ ap (λ o. first_fault (soname_checks elf o)) d

-- ---- the kind

-- a file that has a fault of its kind has it as a shared object
pub kind_reported : (bytes : List ℕ) (f : InputFault) → kind_of bytes ≡ Err f → shared_fault bytes ≡ Some f
unfolding kind_of shared_fault
kind_reported bytes f e = ap (λ o. shared_fault_after o bytes) (fault_of_kind (first_fault (kind_checks bytes)) (ehdr_at bytes 0) f e)

-- any other has the fault of its checks
pub checks_reported : (bytes : List ℕ) (k : Kind) → kind_of bytes ≡ Ok k → shared_fault bytes ≡ first_fault (shared_checks (elf_of bytes))
unfolding kind_of shared_fault
checks_reported bytes k e = ap (λ o. shared_fault_after o bytes) (after_kind (first_fault (kind_checks bytes)) (ehdr_at bytes 0) k e)
