-- The first fault of the entries of a section of relocations, one after another.
use Rattle.std.specs.Prelude.{◌≡◌, refl, ℕ, suc, ◌+◌, ◌-◌, ◌<◌, ◌≤◌, Bool, true, false, List, flat_map, Option, Some, None, length}
use Rattle.std.specs.List.{enumerate_from}
use Rattle.std.proofs.Common.{ap, ◌∙◌, sym, arith}
use Rattle.lk_elf.specs.declared.relocation.Rela.{Rela}
use Rattle.lk_elf.specs.declared.section_header.Shdr.{Shdr}
use Rattle.lk_report.specs.declared.faults.InputFault.{InputFault}
use Rattle.lk_model.specs.Checks.{first_fault}
use Rattle.lk_model.specs.ObjectChecks.{entry_checks, rela_checks, rela_section_checks}
use Rattle.lk_model.specs.Elf.{section_at}
use Rattle.lk_model.specs.Objects.{is_piece_in, relas_under}
use Rattle.lk_model.specs.Views.{Elf}
use Rattle.lk_obj_parts.specs.RelocationEntries.{entries_from, entry_at, entry_count}
use Rattle.lk_obj_parts.specs.RelocationParts.{entry_checks_among, entry_faults, head_checks}
use Rattle.lk_obj_parts.proofs.Entries.{entries_numbered}
use Rattle.lk_obj_parts.proofs.RowFaults.{fault_joined, or_else}

step : (bytes : List ℕ) (header : Shdr) (count n : ℕ) (target : Shdr) (k m : ℕ) → k < m → entry_faults bytes header count n target k (m - k) ≡ or_else (first_fault (entry_checks_among count n target (k, entry_at bytes header k))) (entry_faults bytes header count n target (k + 1) (m - (k + 1)))
step bytes header count n target k m l =
    let e : m - k ≡ suc (m - (k + 1)) = omega arith in
    ap (entry_faults bytes header count n target k) e
    ∙ fault_joined (entry_checks_among count n target (k, entry_at bytes header k)) (flat_map (entry_checks_among count n target) (entries_from bytes header (k + 1) (m - (k + 1))))

pub entry_here : (bytes : List ℕ) (header : Shdr) (count n : ℕ) (target : Shdr) (k m : ℕ) (rela : Rela) (f : InputFault) → k < m → rela ≡ entry_at bytes header k → Some f ≡ first_fault (entry_checks_among count n target (k, rela)) → entry_faults bytes header count n target k (m - k) ≡ Some f
entry_here bytes header count n target k m rela f l r e =
    step bytes header count n target k m l
    ∙ ap (λ (x : Rela). or_else (first_fault (entry_checks_among count n target (k, x))) (entry_faults bytes header count n target (k + 1) (m - (k + 1)))) (sym r)
    ∙ ap (λ (o : Option InputFault). or_else o (entry_faults bytes header count n target (k + 1) (m - (k + 1)))) (sym e)

pub no_entry_here : (bytes : List ℕ) (header : Shdr) (count n : ℕ) (target : Shdr) (k m : ℕ) (rela : Rela) → k < m → rela ≡ entry_at bytes header k → None ≡ first_fault (entry_checks_among count n target (k, rela)) → entry_faults bytes header count n target k (m - k) ≡ entry_faults bytes header count n target (k + 1) (m - (k + 1))
no_entry_here bytes header count n target k m rela l r e =
    step bytes header count n target k m l
    ∙ ap (λ (x : Rela). or_else (first_fault (entry_checks_among count n target (k, x))) (entry_faults bytes header count n target (k + 1) (m - (k + 1)))) (sym r)
    ∙ ap (λ (o : Option InputFault). or_else o (entry_faults bytes header count n target (k + 1) (m - (k + 1)))) (sym e)

pub no_entry_left : (bytes : List ℕ) (header : Shdr) (count n : ℕ) (target : Shdr) (k m : ℕ) → m ≤ k → entry_faults bytes header count n target k (m - k) ≡ None
no_entry_left bytes header count n target k m l =
    let e : m - k ≡ 0 = omega arith in
    ap (entry_faults bytes header count n target k) e

-- ---- a section of relocations in two parts

among : (elf : Elf) (n : ℕ) (target : Shdr) (rows : List (ℕ × Rela)) → flat_map (rela_checks elf n target) rows ≡ flat_map (entry_checks_among (length elf.symbols) n target) rows
unfolding rela_checks entry_checks_among
among elf n target rows = refl

entries : (elf : Elf) (n : ℕ) (header target : Shdr) → first_fault (flat_map (rela_checks elf n target) (enumerate_from 0 (relas_under elf header))) ≡ entry_faults elf.bytes header (length elf.symbols) n target 0 (entry_count elf.bytes header)
entries elf n header target =
    ap first_fault (among elf n target (enumerate_from 0 (relas_under elf header)))
    ∙ ap (λ rows. first_fault (flat_map (entry_checks_among (length elf.symbols) n target) rows)) (entries_numbered elf header)

pub parts : (elf : Elf) (n : ℕ) (header : Shdr) → first_fault (rela_section_checks elf (n, header)) ≡ or_else (first_fault (head_checks elf n header)) (first_fault (entry_checks elf n header (is_piece_in elf header.sh_info) (section_at elf header.sh_info)))
unfolding rela_section_checks head_checks
parts elf n header = fault_joined (head_checks elf n header) (entry_checks elf n header (is_piece_in elf header.sh_info) (section_at elf header.sh_info))

pub head_reported : (elf : Elf) (n : ℕ) (header : Shdr) (f : InputFault) → first_fault (head_checks elf n header) ≡ Some f → first_fault (rela_section_checks elf (n, header)) ≡ Some f
head_reported elf n header f e =
    parts elf n header
    ∙ ap (λ (o : Option InputFault). or_else o (first_fault (entry_checks elf n header (is_piece_in elf header.sh_info) (section_at elf header.sh_info)))) e

rest : (elf : Elf) (n : ℕ) (header : Shdr) → first_fault (head_checks elf n header) ≡ None → first_fault (rela_section_checks elf (n, header)) ≡ first_fault (entry_checks elf n header (is_piece_in elf header.sh_info) (section_at elf header.sh_info))
rest elf n header e =
    parts elf n header
    ∙ ap (λ (o : Option InputFault). or_else o (first_fault (entry_checks elf n header (is_piece_in elf header.sh_info) (section_at elf header.sh_info)))) e

nothing : (elf : Elf) (n : ℕ) (header : Shdr) (target : Option Shdr) → first_fault (entry_checks elf n header false target) ≡ None
nothing elf n header None = refl
nothing elf n header (Some target) = refl

pub no_target : (elf : Elf) (n : ℕ) (header : Shdr) → first_fault (head_checks elf n header) ≡ None → section_at elf header.sh_info ≡ None → first_fault (rela_section_checks elf (n, header)) ≡ None
no_target elf n header e t =
    rest elf n header e ∙ ap (λ o. first_fault (entry_checks elf n header (is_piece_in elf header.sh_info) o)) t

pub no_piece : (elf : Elf) (n : ℕ) (header : Shdr) → first_fault (head_checks elf n header) ≡ None → is_piece_in elf header.sh_info ≡ false → first_fault (rela_section_checks elf (n, header)) ≡ None
no_piece elf n header e t =
    rest elf n header e
    ∙ ap (λ b. first_fault (entry_checks elf n header b (section_at elf header.sh_info))) t
    ∙ nothing elf n header (section_at elf header.sh_info)

found-none : (elf : Elf) (n : ℕ) (header target : Shdr) (piece : Bool) → entry_faults elf.bytes header (length elf.symbols) n target 0 (entry_count elf.bytes header) ≡ None → first_fault (entry_checks elf n header piece (Some target)) ≡ None
found-none elf n header target true h = entries elf n header target ∙ h
found-none elf n header target false h = refl

-- where no entry has a fault, none is reported, whether or not the target is a piece
pub no_entry_fault : (elf : Elf) (n : ℕ) (header target : Shdr) → first_fault (head_checks elf n header) ≡ None → section_at elf header.sh_info ≡ Some target → entry_faults elf.bytes header (length elf.symbols) n target 0 (entry_count elf.bytes header) ≡ None → first_fault (rela_section_checks elf (n, header)) ≡ None
no_entry_fault elf n header target e s h =
    rest elf n header e
    ∙ ap (λ o. first_fault (entry_checks elf n header (is_piece_in elf header.sh_info) o)) s
    ∙ found-none elf n header target (is_piece_in elf header.sh_info) h

pub entries_fault_reported : (elf : Elf) (n : ℕ) (header target : Shdr) → first_fault (head_checks elf n header) ≡ None → is_piece_in elf header.sh_info ≡ true → section_at elf header.sh_info ≡ Some target → first_fault (rela_section_checks elf (n, header)) ≡ entry_faults elf.bytes header (length elf.symbols) n target 0 (entry_count elf.bytes header)
entries_fault_reported elf n header target e t s =
    rest elf n header e
    ∙ ap (λ b. first_fault (entry_checks elf n header b (section_at elf header.sh_info))) t
    ∙ ap (λ o. first_fault (entry_checks elf n header true o)) s
    ∙ entries elf n header target
