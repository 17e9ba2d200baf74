-- Where the sections of relocations have no fault, each field of each piece fits in it.
use Rattle.std.specs.Prelude.{◌≡◌, refl, ℕ, zero, suc, ◌+◌, ◌==◌, ◌<◌, ◌≤◌, Bool, true, false, not, ◌&&◌, cond, nat_lt, List, [], ◌∷◌, filter, flat_map, length, Option, Some, None}
use Rattle.std.proofs.Common.{sym, ◌∙◌, ap, subst, arith}
use mathlib.Core.Logic.{⊎_elim}
use Rattle.std.proofs.lemmas.Bool.{cases_eq, eqb-true}
use Rattle.std.proofs.lemmas.Bool.Decides.{nat_tests}
use Rattle.lk_elf.specs.Numbers.{sht_nobits, sht_rela}
use Rattle.lk_elf.specs.declared.file_header.Ehdr.{Ehdr}
use Rattle.lk_elf.specs.declared.relocation.Rela.{Rela}
use Rattle.lk_elf.specs.declared.section_header.Shdr.{Shdr}
use Rattle.lk_elf.specs.declared.symbol.Sym.{Sym}
use Rattle.lk_report.specs.declared.faults.InputFault.{InputFault}
use Rattle.lk_model.specs.Checks.{first_fault}
use Rattle.lk_model.specs.Elf.{numbered, section_at}
use Rattle.lk_model.specs.ObjectChecks.{is_outside, rela_section_checks, rela_sections}
use Rattle.lk_model.specs.Objects.{is_piece_in, rela_sections_of}
use Rattle.lk_model.specs.Views.{Elf}
use Rattle.lk_elf.specs.RelocationInfo.{r_symbol_of}
use Rattle.lk_obj_parts.specs.ElfViews.{elf_from}
use Rattle.lk_obj_parts.specs.FieldMarks.{FieldsFit, RowsFit, field_width}
use Rattle.lk_obj_parts.specs.RelocationEntries.{entries_from, entry_at, entry_count}
use Rattle.lk_obj_parts.specs.RelocationParts.{entry_checks_among, entry_faults, head_checks}
use Rattle.lk_obj_parts.specs.TargetRows.{TargetsFit, room_of}
use Rattle.lk_obj_parts.proofs.EntryFaults.{entries_fault_reported, parts}
use Rattle.lk_obj_parts.proofs.RelocationTargets.{piece_reported}
use Rattle.lk_obj_parts.proofs.RowFaults.{fault_joined, or_else}

first-none : (a b : Option InputFault) → or_else a b ≡ None → a ≡ None
first-none None b e = refl
first-none (Some f) b e = cc

second-none : (a b : Option InputFault) → or_else a b ≡ None → b ≡ None
second-none None b e = e
second-none (Some f) b e = cc

-- ---- an entry

third : (a b c : Bool) (f g h : InputFault) → cond a (Some f) (cond b (Some g) (cond c (Some h) None)) ≡ None → (b ≡ false) × (c ≡ false)
third true b c f g h e = cc
third false true c f g h e = cc
third false false true f g h e = cc
third false false false f g h e = (refl, refl)

within : (size : ℕ) (rela : Rela) → is_outside size rela ≡ false → rela.r_offset + field_width rela ≤ size
within size rela e = grind (arith, nat_tests, e)

in-room : (target : Shdr) (n : ℕ) → (target.sh_type == sht_nobits) ≡ false → n ≤ target.sh_size → n ≤ room_of target
in-room target n e l = let same : room_of target ≡ target.sh_size = ap (λ t. cond t 0 target.sh_size) e in omega (arith, same, l)

entry-fits : (count n : ℕ) (target : Shdr) (k : ℕ) (rela : Rela) → first_fault (entry_checks_among count n target (k, rela)) ≡ None → rela.r_offset + field_width rela ≤ room_of target
unfolding entry_checks_among
entry-fits count n target k rela e =
    let both : (is_outside target.sh_size rela ≡ false) × ((target.sh_type == sht_nobits) ≡ false) = third (not (nat_lt (r_symbol_of rela) count)) (is_outside target.sh_size rela) (target.sh_type == sht_nobits) _ _ _ e in
    in-room target (rela.r_offset + field_width rela) both.1 (within target.sh_size rela both.0)

-- ---- the entries of a section

entries-fit : (bytes : List ℕ) (header : Shdr) (count n : ℕ) (target : Shdr) (m j : ℕ) → entry_faults bytes header count n target j m ≡ None → (k : ℕ) → j ≤ k → k < j + m → (entry_at bytes header k).r_offset + field_width (entry_at bytes header k) ≤ room_of target
entries-fit bytes header count n target zero j e k l u = absurd (omega (arith, l, u))
entries-fit bytes header count n target (suc m) j e k l u =
    let both : or_else (first_fault (entry_checks_among count n target (j, entry_at bytes header j))) (entry_faults bytes header count n target (j + 1) m) ≡ None = sym (fault_joined (entry_checks_among count n target (j, entry_at bytes header j)) (flat_map (entry_checks_among count n target) (entries_from bytes header (j + 1) m))) ∙ e in
    ⊎_elim
    (λ same. let there : entry_at bytes header j ≡ entry_at bytes header k = ap (entry_at bytes header) (sym same) in
    subst (λ (rela : Rela). rela.r_offset + field_width rela ≤ room_of target) there (entry-fits count n target j (entry_at bytes header j) (first-none (first_fault (entry_checks_among count n target (j, entry_at bytes header j))) (entry_faults bytes header count n target (j + 1) m) both)))
    (λ other. entries-fit bytes header count n target m (j + 1) (second-none (first_fault (entry_checks_among count n target (j, entry_at bytes header j))) (entry_faults bytes header count n target (j + 1) m) both) k (omega (arith, other, l)) (omega (arith, u)))
    (cases_eq k j)

section-fits : (elf : Elf) (n : ℕ) (header target : Shdr) → is_piece_in elf header.sh_info ≡ true → section_at elf header.sh_info ≡ Some target → first_fault (rela_section_checks elf (n, header)) ≡ None → FieldsFit (room_of target) elf.bytes header
section-fits elf n header target p s e k l =
    let head : first_fault (head_checks elf n header) ≡ None = first-none (first_fault (head_checks elf n header)) _ (sym (parts elf n header) ∙ e) in
    entries-fit elf.bytes header (length elf.symbols) n target (entry_count elf.bytes header) 0 (sym (entries_fault_reported elf n header target head p s) ∙ e) k (omega arith) (omega (arith, l))

-- ---- the sections of relocations on a target

row-fits : (size : ℕ) (bytes : List ℕ) (a b : Bool) (row : ℕ × Shdr) (rows : List (ℕ × Shdr)) → (a ≡ true → b ≡ true → FieldsFit size bytes row.1) → RowsFit size bytes rows → RowsFit size bytes (cond (a && b) (row ∷ rows) rows)
row-fits size bytes true true row rows h r = (h refl refl, r)
row-fits size bytes true false row rows h r = r
row-fits size bytes false b row rows h r = r

rest-none : (elf : Elf) (b : Bool) (row : ℕ × Shdr) (rows : List (ℕ × Shdr)) → first_fault (flat_map (rela_section_checks elf) (cond b (row ∷ rows) rows)) ≡ None → first_fault (flat_map (rela_section_checks elf) rows) ≡ None
rest-none elf true row rows e =
    second-none (first_fault (rela_section_checks elf row)) _ (sym (fault_joined (rela_section_checks elf row) (flat_map (rela_section_checks elf) rows)) ∙ e)
rest-none elf false row rows e = e

here-none : (elf : Elf) (b : Bool) (row : ℕ × Shdr) (rows : List (ℕ × Shdr)) → first_fault (flat_map (rela_section_checks elf) (cond b (row ∷ rows) rows)) ≡ None → b ≡ true → first_fault (rela_section_checks elf row) ≡ None
here-none elf true row rows e h =
    first-none (first_fault (rela_section_checks elf row)) _ (sym (fault_joined (rela_section_checks elf row) (flat_map (rela_section_checks elf) rows)) ∙ e)
here-none elf false row rows e h = cc

rows-fit : (elf : Elf) (t : ℕ) (target : Shdr) → is_piece_in elf t ≡ true → section_at elf t ≡ Some target → (rows : List (ℕ × Shdr)) → first_fault (flat_map (rela_section_checks elf) (filter (λ (row : ℕ × Shdr). row.1.sh_type == sht_rela) rows)) ≡ None → RowsFit (room_of target) elf.bytes (filter (λ (row : ℕ × Shdr). row.1.sh_type == sht_rela && row.1.sh_info == t) rows)
rows-fit elf t target p s [] e = tt
rows-fit elf t target p s (row ∷ rows) e =
    let chosen : List (ℕ × Shdr) = filter (λ (r : ℕ × Shdr). r.1.sh_type == sht_rela) rows in
    row-fits (room_of target) elf.bytes (row.1.sh_type == sht_rela) (row.1.sh_info == t) row (filter (λ (r : ℕ × Shdr). r.1.sh_type == sht_rela && r.1.sh_info == t) rows)
    (λ a b. let same : row.1.sh_info ≡ t = eqb-true row.1.sh_info t b in
    section-fits elf row.0 row.1 target (ap (is_piece_in elf) same ∙ p) (ap (section_at elf) same ∙ s) (here-none elf (row.1.sh_type == sht_rela) row chosen e a))
    (rows-fit elf t target p s rows (rest-none elf (row.1.sh_type == sht_rela) row chosen e))

chosen-fit : (size : ℕ) (bytes : List ℕ) (b : Bool) (rows : List (ℕ × Shdr)) → (b ≡ true → RowsFit size bytes rows) → RowsFit size bytes (cond b rows [])
chosen-fit size bytes true rows h = h refl
chosen-fit size bytes false rows h = tt

-- where no section of relocations has a fault, each field of each piece fits in it
pub targets_fit : (bytes : List ℕ) (header : Ehdr) (sections : List Shdr) (symbols : List Sym) → first_fault (flat_map (rela_section_checks (elf_from bytes header sections symbols)) (rela_sections (elf_from bytes header sections symbols))) ≡ None → TargetsFit (elf_from bytes header sections [])
targets_fit bytes header sections symbols e t target s =
    let read : is_piece_in (elf_from bytes header sections symbols) t ≡ is_piece_in (elf_from bytes header sections []) t = piece_reported bytes header sections symbols t ∙ sym (piece_reported bytes header sections [] t) in
    chosen-fit (room_of target) bytes (is_piece_in (elf_from bytes header sections []) t) (rela_sections_of (elf_from bytes header sections []) t)
    (λ p. rows-fit (elf_from bytes header sections symbols) t target (read ∙ p) s (numbered sections) e)
