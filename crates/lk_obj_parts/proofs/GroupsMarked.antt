-- Groups whose earlier members are known by marks have the faults of groups that are kept against the
-- list of those members.
use Rattle.std.specs.Prelude.{◌≡◌, refl, ℕ, zero, suc, ◌+◌, ◌<◌, ◌≤◌, ◌==◌, Bool, true, false, cond, not, ◌||◌, ◌&&◌, nat_eq, List, [], ◌∷◌, ◌++◌, drop, filter, fold, length, slice_get, Option, Some, None, is_none, is_some}
use Rattle.std.specs.List.{enumerate_from, list_all, list_any}
use Rattle.std.specs.Option.{option_or}
use Rattle.std.proofs.Common.{ap, ◌∙◌, sym, add-one, drop-cons, get_or}
use Rattle.std.proofs.lemmas.Bool.{and_parts, true≢false}
use Rattle.std.proofs.lemmas.List.{drop_all}
use Rattle.std.proofs.lemmas.Option.{slice_get_within}
use Rattle.lk_elf.specs.Numbers.{sht_group}
use Rattle.lk_elf.specs.declared.section_header.Shdr.{Shdr}
use Rattle.lk_report.specs.declared.faults.InputFault.{InputFault}
use Rattle.lk_report.specs.declared.faults.InputFault.TheVariants.{BadGroup}
use Rattle.lk_marks.specs.Marked.{is_marked, marks_of, with_mark}
use Rattle.lk_marks.proofs.MarksMade.{mark_reported, marks_more}
use Rattle.lk_model.specs.Checks.{first_fault}
use Rattle.lk_model.specs.ObjectChecks.{group_checks, group_checks_after, has_group_flag, is_group_size, is_section, is_symbol_table}
use Rattle.lk_model.specs.Objects.{group_sections, members_under, signature_of}
use Rattle.lk_model.specs.Views.{Elf}
use Rattle.lk_obj_parts.specs.GroupMarks.{fault_if_group, is_bad_head, is_section_in, is_table_at, marked_fault, marked_faults, marks_after}
use Rattle.lk_obj_parts.specs.GroupParts.{members_in, words_in}
use Rattle.lk_obj_parts.proofs.GroupWords.{words_reported}
use Rattle.lk_obj_parts.specs.SymbolTables.{symbols_at}
use Rattle.lk_obj_parts.proofs.NamedGroups.{is_table_reported}
use Rattle.lk_obj_parts.proofs.Headers.{section_reported}

-- ---- members

there : (sections : List Shdr) (n : ℕ) → is_section_in sections n ≡ true → n < length sections
there sections zero e = absurd (true≢false (sym e))
there sections (suc n) e = within (slice_get sections (suc n)) refl e
  where
    within : (o : Option Shdr) → slice_get sections (suc n) ≡ o → is_some o ≡ true → suc n < length sections
    within None g t = absurd (true≢false (sym t))
    within (Some x) g t = slice_get_within sections (suc n) x g

any_reported : (sections : List Shdr) (claimed ms : List ℕ) → list_all (is_section_in sections) ms ≡ true → list_any (is_marked (marks_of claimed (length sections))) ms ≡ list_any (λ m. list_any (nat_eq m) claimed) ms
any_reported sections claimed [] e = refl
any_reported sections claimed (m ∷ ms) e =
    let parts : (is_section_in sections m ≡ true) × (list_all (is_section_in sections) ms ≡ true) = and_parts (is_section_in sections m) (list_all (is_section_in sections) ms) e in
    ap (λ t. t || list_any (is_marked (marks_of claimed (length sections))) ms) (mark_reported claimed (length sections) m (there sections m parts.0))
    ∙ ap (λ t. list_any (nat_eq m) claimed || t) (any_reported sections claimed ms parts.1)

members_reported : (sections : List Shdr) (claimed ms : List ℕ) (t : Bool) → list_all (is_section_in sections) ms ≡ t → (not t || list_any (is_marked (marks_of claimed (length sections))) ms) ≡ (not t || list_any (λ m. list_any (nat_eq m) claimed) ms)
members_reported sections claimed ms true e = any_reported sections claimed ms e
members_reported sections claimed ms false e = refl

all_same : (elf : Elf) (ms : List ℕ) → list_all (is_section elf) ms ≡ list_all (is_section_in elf.sections) ms
all_same elf [] = refl
all_same elf (m ∷ ms) =
    ap (λ (o : Option Shdr). is_some o && list_all (is_section elf) ms) (section_reported elf m)
    ∙ ap (λ t. is_section_in elf.sections m && t) (all_same elf ms)

-- ---- one group

six : (a b c d e f : Bool) (g : InputFault) → cond ((a || b || c || d) || (e || f)) (Some g) None ≡ first_fault ((a, g) ∷ (b, g) ∷ (c, g) ∷ (d, g) ∷ (e, g) ∷ (f, g) ∷ [])
six true b c d e f g = refl
six false true c d e f g = refl
six false false true d e f g = refl
six false false false true e f g = refl
six false false false false true f g = refl
six false false false false false true g = refl
six false false false false false false g = refl

reported_with : (elf : Elf) (claimed : List ℕ) (n : ℕ) (header : Shdr) → marked_fault elf (marks_of claimed (length elf.sections)) n header ≡ first_fault (group_checks elf claimed n header (members_in elf.bytes header))
unfolding marked_fault group_checks
reported_with elf claimed n header =
    let ms : List ℕ = members_in elf.bytes header in
    ap (λ t. cond (is_bad_head elf header || t) (Some (BadGroup n)) None) (members_reported elf.sections claimed ms (list_all (is_section_in elf.sections) ms) refl)
    ∙ six (not (is_group_size header.sh_size)) (not (is_table_at (symbols_at elf.sections) header.sh_link)) (is_none (signature_of elf header.sh_info)) (not (has_group_flag (words_in elf.bytes header))) (not (list_all (is_section_in elf.sections) ms)) (list_any (λ m. list_any (nat_eq m) claimed) ms) (BadGroup n)
    ∙ ap (λ t. first_fault ((not (is_group_size header.sh_size), BadGroup n) ∷ (not t, BadGroup n) ∷ (is_none (signature_of elf header.sh_info), BadGroup n) ∷ (not (has_group_flag (words_in elf.bytes header)), BadGroup n) ∷ (not (list_all (is_section_in elf.sections) ms), BadGroup n) ∷ (list_any (λ m. list_any (nat_eq m) claimed) ms, BadGroup n) ∷ [])) (sym (is_table_reported elf header.sh_link))
    ∙ ap (λ t. first_fault ((not (is_group_size header.sh_size), BadGroup n) ∷ (not (is_symbol_table elf header.sh_link), BadGroup n) ∷ (is_none (signature_of elf header.sh_info), BadGroup n) ∷ (not (has_group_flag (words_in elf.bytes header)), BadGroup n) ∷ (not t, BadGroup n) ∷ (list_any (λ m. list_any (nat_eq m) claimed) ms, BadGroup n) ∷ [])) (sym (all_same elf ms))
    ∙ ap (λ words. first_fault ((not (is_group_size header.sh_size), BadGroup n) ∷ (not (is_symbol_table elf header.sh_link), BadGroup n) ∷ (is_none (signature_of elf header.sh_info), BadGroup n) ∷ (not (has_group_flag words), BadGroup n) ∷ (not (list_all (is_section elf) ms), BadGroup n) ∷ (list_any (λ m. list_any (nat_eq m) claimed) ms, BadGroup n) ∷ [])) (sym (words_reported elf header))

members_same : (elf : Elf) (header : Shdr) → members_in elf.bytes header ≡ members_under elf header
members_same elf header = ap (drop 1) (sym (words_reported elf header))

pub fault_reported : (elf : Elf) (marks : List Bool) (claimed : List ℕ) (n : ℕ) (header : Shdr) → marks ≡ marks_of claimed (length elf.sections) → marked_fault elf marks n header ≡ first_fault (group_checks elf claimed n header (members_under elf header))
fault_reported elf marks claimed n header e =
    ap (λ (bs : List Bool). marked_fault elf bs n header) e
    ∙ reported_with elf claimed n header
    ∙ ap (λ ms. first_fault (group_checks elf claimed n header ms)) (members_same elf header)

-- ---- group after group

fault_joined : (xs ys : List (Bool × InputFault)) → first_fault (xs ++ ys) ≡ option_or (first_fault xs) (first_fault ys)
fault_joined [] ys = refl
fault_joined ((true, g) ∷ xs) ys = refl
fault_joined ((false, g) ∷ xs) ys = fault_joined xs ys

abbrev is_group : ℕ × Shdr → Bool
is_group row = row.1.sh_type == sht_group

faults_after : (elf : Elf) (claimed : List ℕ) (n : ℕ) (headers : List Shdr) → marked_faults elf (marks_of claimed (length elf.sections)) n headers ≡ first_fault (group_checks_after elf claimed (filter is_group (enumerate_from n headers)))
unfolding marked_faults group_checks_after fault_if_group marks_after
faults_after elf claimed n [] = refl
faults_after elf claimed n (header ∷ headers) =
    by_type elf claimed n header headers (λ earlier. faults_after elf earlier (n + 1) headers) (header.sh_type == sht_group)
  where
    by_type : (elf : Elf) (claimed : List ℕ) (n : ℕ) (header : Shdr) (headers : List Shdr)
        → ((earlier : List ℕ) → marked_faults elf (marks_of earlier (length elf.sections)) (n + 1) headers ≡ first_fault (group_checks_after elf earlier (filter is_group (enumerate_from (n + 1) headers))))
        → (t : Bool)
        → option_or (cond t (marked_fault elf (marks_of claimed (length elf.sections)) n header) None) (marked_faults elf (cond t (fold with_mark (marks_of claimed (length elf.sections)) (members_in elf.bytes header)) (marks_of claimed (length elf.sections))) (n + 1) headers)
        ≡ first_fault (group_checks_after elf claimed (cond t ((n, header) ∷ filter is_group (enumerate_from (n + 1) headers)) (filter is_group (enumerate_from (n + 1) headers))))
    by_type elf claimed n header headers on false = on claimed
    by_type elf claimed n header headers on true =
        let marks : List Bool = marks_of claimed (length elf.sections) in
        let here : List (Bool × InputFault) = group_checks elf claimed n header (members_under elf header) in
        ap (λ (o : Option InputFault). option_or o (marked_faults elf (fold with_mark marks (members_in elf.bytes header)) (n + 1) headers)) (fault_reported elf marks claimed n header refl)
        ∙ ap (λ ms. option_or (first_fault here) (marked_faults elf (fold with_mark marks ms) (n + 1) headers)) (members_same elf header)
        ∙ ap (λ (bs : List Bool). option_or (first_fault here) (marked_faults elf bs (n + 1) headers)) (marks_more claimed (length elf.sections) (members_under elf header))
        ∙ ap (option_or (first_fault here)) (on (claimed ++ members_under elf header))
        ∙ sym (fault_joined here (group_checks_after elf (claimed ++ members_under elf header) (filter is_group (enumerate_from (n + 1) headers))))

pub faults_reported : (elf : Elf) (marks : List Bool) → marks ≡ marks_of [] (length elf.sections) → marked_faults elf marks 1 (drop 1 elf.sections) ≡ first_fault (group_checks_after elf [] (group_sections elf))
faults_reported elf marks e =
    ap (λ (bs : List Bool). marked_faults elf bs 1 (drop 1 elf.sections)) e
    ∙ faults_after elf [] 1 (drop 1 elf.sections)

-- ---- the loop over sections

step : (elf : Elf) (marks : List Bool) (i : ℕ) (headers : List Shdr) (d : Shdr) → i < length headers → marked_faults elf marks i (drop i headers) ≡ option_or (fault_if_group elf marks i (get_or headers i d)) (marked_faults elf (marks_after elf marks (get_or headers i d)) (i + 1) (drop (i + 1) headers))
unfolding marked_faults
step elf marks i headers d l =
    ap (marked_faults elf marks i) (drop-cons headers i d l)
    ∙ ap (λ n. option_or (fault_if_group elf marks i (get_or headers i d)) (marked_faults elf (marks_after elf marks (get_or headers i d)) (i + 1) (drop n headers))) (sym (add-one i))

pub fault_here : (elf : Elf) (marks : List Bool) (i : ℕ) (headers : List Shdr) (d : Shdr) (f : InputFault) → i < length headers → fault_if_group elf marks i (get_or headers i d) ≡ Some f → marked_faults elf marks i (drop i headers) ≡ Some f
fault_here elf marks i headers d f l e =
    step elf marks i headers d l ∙ ap (λ (o : Option InputFault). option_or o (marked_faults elf (marks_after elf marks (get_or headers i d)) (i + 1) (drop (i + 1) headers))) e

pub no_fault_here : (elf : Elf) (marks : List Bool) (i : ℕ) (headers : List Shdr) (d : Shdr) → i < length headers → fault_if_group elf marks i (get_or headers i d) ≡ None → marked_faults elf marks i (drop i headers) ≡ marked_faults elf (marks_after elf marks (get_or headers i d)) (i + 1) (drop (i + 1) headers)
no_fault_here elf marks i headers d l e =
    step elf marks i headers d l ∙ ap (λ (o : Option InputFault). option_or o (marked_faults elf (marks_after elf marks (get_or headers i d)) (i + 1) (drop (i + 1) headers))) e

pub no_group_left : (elf : Elf) (marks : List Bool) (i : ℕ) (headers : List Shdr) → length headers ≤ i → marked_faults elf marks i (drop i headers) ≡ None
unfolding marked_faults
no_group_left elf marks i headers l = ap (marked_faults elf marks i) (drop_all i headers l)
