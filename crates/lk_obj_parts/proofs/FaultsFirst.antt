-- The first fault of checks in parts.
use Rattle.std.specs.Prelude.{◌≡◌, refl, ℕ, suc, ◌+◌, ◌<◌, ◌≤◌, Bool, true, false, List, [], ◌∷◌, ◌++◌, drop, flat_map, length, Option, Some, None}
use Rattle.std.specs.List.{enumerate_from}
use Rattle.std.proofs.Common.{ap, ◌∙◌, sym, get_or, drop-cons, add-one}
use Rattle.std.proofs.lemmas.List.{drop_all}
use Rattle.lk_elf.specs.declared.file_header.Ehdr.{Ehdr}
use Rattle.lk_elf.specs.declared.section_header.Shdr.{Shdr}
use Rattle.lk_report.specs.declared.faults.InputFault.{InputFault}
use Rattle.lk_model.specs.Checks.{first_fault}
use Rattle.lk_model.specs.Elf.{section_name}
use Rattle.lk_model.specs.ObjectChecks.{section_checks, section_checks_named}
use Rattle.lk_model.specs.Views.{Elf}
use Rattle.lk_obj_parts.specs.ElfViews.{elf_from}
use Rattle.lk_obj_parts.specs.SectionParts.{faults_from, name_checks, place_checks}

-- the fault of two lists of checks is that of the first, or else that of the second
abbrev or_else : Option InputFault → Option InputFault → Option InputFault
or_else (Some f) other = Some f
or_else None other = other

fault_joined : (xs ys : List (Bool × InputFault)) → first_fault (xs ++ ys) ≡ or_else (first_fault xs) (first_fault ys)
fault_joined [] ys = refl
fault_joined ((true, g) ∷ xs) ys = refl
fault_joined ((false, g) ∷ xs) ys = fault_joined xs ys

-- ---- the two parts of a section's checks

parts : (elf : Elf) (n : ℕ) (header : Shdr) → first_fault (section_checks elf (n, header)) ≡ or_else (first_fault (place_checks elf.bytes n header)) (first_fault (name_checks n header (section_name elf n)))
unfolding section_checks_named place_checks name_checks
parts elf n header = fault_joined (place_checks elf.bytes n header) (name_checks n header (section_name elf n))

pub place_reported : (bytes : List ℕ) (file : Ehdr) (sections : List Shdr) (n : ℕ) (header : Shdr) (f : InputFault) → first_fault (place_checks bytes n header) ≡ Some f → first_fault (section_checks (elf_from bytes file sections []) (n, header)) ≡ Some f
place_reported bytes file sections n header f e =
    let elf = elf_from bytes file sections [] in
    parts elf n header ∙ ap (λ (o : Option InputFault). or_else o (first_fault (name_checks n header (section_name elf n)))) e

pub name_reported : (bytes : List ℕ) (file : Ehdr) (sections : List Shdr) (n : ℕ) (header : Shdr) → first_fault (place_checks bytes n header) ≡ None → first_fault (section_checks (elf_from bytes file sections []) (n, header)) ≡ first_fault (name_checks n header (section_name (elf_from bytes file sections []) n))
name_reported bytes file sections n header e =
    let elf = elf_from bytes file sections [] in
    parts elf n header ∙ ap (λ (o : Option InputFault). or_else o (first_fault (name_checks n header (section_name elf n)))) e

-- ---- section after section

step : (elf : Elf) (i : ℕ) (headers : List Shdr) (d : Shdr) → i < length headers → faults_from elf i (drop i headers) ≡ or_else (first_fault (section_checks elf (i, get_or headers i d))) (faults_from elf (i + 1) (drop (i + 1) headers))
step elf i headers d l =
    ap (faults_from elf i) (drop-cons headers i d l)
    ∙ fault_joined (section_checks elf (i, get_or headers i d)) (flat_map (section_checks elf) (enumerate_from (i + 1) (drop (suc i) headers)))
    ∙ ap (λ n. or_else (first_fault (section_checks elf (i, get_or headers i d))) (faults_from elf (i + 1) (drop n headers))) (sym (add-one i))

pub fault_here : (elf : Elf) (i : ℕ) (headers : List Shdr) (d : Shdr) (f : InputFault) → i < length headers → first_fault (section_checks elf (i, get_or headers i d)) ≡ Some f → faults_from elf i (drop i headers) ≡ Some f
fault_here elf i headers d f l e =
    step elf i headers d l ∙ ap (λ (o : Option InputFault). or_else o (faults_from elf (i + 1) (drop (i + 1) headers))) e

pub no_fault_here : (elf : Elf) (i : ℕ) (headers : List Shdr) (d : Shdr) → i < length headers → first_fault (section_checks elf (i, get_or headers i d)) ≡ None → faults_from elf i (drop i headers) ≡ faults_from elf (i + 1) (drop (i + 1) headers)
no_fault_here elf i headers d l e =
    step elf i headers d l ∙ ap (λ (o : Option InputFault). or_else o (faults_from elf (i + 1) (drop (i + 1) headers))) e

pub no_section_left : (elf : Elf) (i : ℕ) (headers : List Shdr) → length headers ≤ i → faults_from elf i (drop i headers) ≡ None
no_section_left elf i headers l = ap (faults_from elf i) (drop_all i headers l)
