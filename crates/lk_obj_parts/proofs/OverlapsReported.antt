-- The overlap check over all targets, by the lists of the sections of relocations on each.
use Rattle.std.specs.Prelude.{◌≡◌, refl, ℕ, zero, suc, ◌+◌, ◌<◌, ◌≤◌, Bool, true, false, cond, List, [], ◌∷◌, ◌++◌, drop, flat_map, length, map, slice_index_or, Option, Some, None}
use Rattle.std.specs.List.{enumerate_from, list_all}
use Rattle.std.proofs.Common.{sym, ◌∙◌, ap, subst, arith, get_or, length-drop}
use Rattle.std.proofs.lemmas.List.{get_or-drop}
use Rattle.std.proofs.lemmas.Option.{slice_get-get_or}
use Rattle.lk_elf.specs.declared.file_header.Ehdr.{Ehdr}
use Rattle.lk_elf.specs.declared.relocation.Rela.{Rela}
use Rattle.lk_elf.specs.declared.section_header.Shdr.{Shdr}
use Rattle.lk_elf.specs.declared.symbol.Sym.{Sym}
use Rattle.lk_report.specs.declared.faults.InputFault.{InputFault}
use Rattle.lk_model.specs.Checks.{first_fault}
use Rattle.lk_model.specs.Elf.{numbered, section_at}
use Rattle.lk_model.specs.ObjectChecks.{overlap_checks, overlap_checks_after}
use Rattle.lk_model.specs.Objects.{is_piece_in, rela_sections_of, relas_under}
use Rattle.lk_model.specs.Views.{Elf}
use Rattle.lk_obj_parts.specs.ElfViews.{elf_from}
use Rattle.lk_obj_parts.specs.FieldMarks.{FieldsFit, RowsFit, sites_from, sites_of, sites_of_row}
use Rattle.lk_obj_parts.specs.RelocationEntries.{entries_from, entry_at, entry_count}
use Rattle.lk_obj_parts.specs.RelocationParts.{rows_fault}
use Rattle.lk_obj_parts.specs.RisingFields.{is_apart, rows_rise, targets_rise}
use Rattle.lk_obj_parts.specs.TargetRows.{TargetsFit, list_checks, marked_rows, piece_rows, room_of, room_with}
use Rattle.lk_obj_parts.proofs.Entries.{entries_numbered}
use Rattle.lk_obj_parts.proofs.RelocationTargets.{piece_reported}
use Rattle.lk_obj_parts.proofs.MarkedRows.{marked_fit, marked_reported}
use Rattle.lk_obj_parts.proofs.RisingFields.{both, overlap_of, target_apart}
use Rattle.lk_obj_parts.proofs.RowFaults.{fault_joined, or_else, same_rows}

-- ---- the sites of a target

entry-sites : (bytes : List ℕ) (n : ℕ) (header : Shdr) (k m : ℕ) → map (λ (entry : ℕ × Rela). (n, entry.0, entry.1)) (entries_from bytes header k m) ≡ sites_from bytes n header k m
entry-sites bytes n header k zero = refl
entry-sites bytes n header k (suc m) = ap (λ (rest : List (ℕ × ℕ × Rela)). (n, k, entry_at bytes header k) ∷ rest) (entry-sites bytes n header (k + 1) m)

row-sites : (elf : Elf) (row : ℕ × Shdr) → map (λ (entry : ℕ × Rela). (row.0, entry.0, entry.1)) (enumerate_from 0 (relas_under elf row.1)) ≡ sites_of_row elf.bytes row
row-sites elf row =
    ap (map (λ (entry : ℕ × Rela). (row.0, entry.0, entry.1))) (entries_numbered elf row.1)
    ∙ entry-sites elf.bytes row.0 row.1 0 (entry_count elf.bytes row.1)

rows-sites : (elf : Elf) (rows : List (ℕ × Shdr)) → flat_map (λ (row : ℕ × Shdr). map (λ (entry : ℕ × Rela). (row.0, entry.0, entry.1)) (enumerate_from 0 (relas_under elf row.1))) rows ≡ sites_of elf.bytes rows
rows-sites elf [] = refl
rows-sites elf (row ∷ rows) =
    ap (λ (s : List (ℕ × ℕ × Rela)). s ++ flat_map (λ (row : ℕ × Shdr). map (λ (entry : ℕ × Rela). (row.0, entry.0, entry.1)) (enumerate_from 0 (relas_under elf row.1))) rows) (row-sites elf row)
    ∙ ap (λ (s : List (ℕ × ℕ × Rela)). sites_of_row elf.bytes row ++ s) (rows-sites elf rows)

where_piece : (elf : Elf) (t : ℕ) (b : Bool) → first_fault (overlap_checks_after [] (sites_of elf.bytes (cond b (rela_sections_of elf t) []))) ≡ first_fault (overlap_checks elf b t)
unfolding overlap_checks_after
where_piece elf t true = ap (λ sites. first_fault (overlap_checks_after [] sites)) (sym (rows-sites elf (rela_sections_of elf t)))
where_piece elf t false = refl

-- ---- all targets

same-pieces : (bytes : List ℕ) (header : Ehdr) (sections : List Shdr) (symbols : List Sym) (t : ℕ) → piece_rows (elf_from bytes header sections []) t ≡ piece_rows (elf_from bytes header sections symbols) t
same-pieces bytes header sections symbols t =
    ap (λ b. cond b (rela_sections_of (elf_from bytes header sections []) t) [])
    (piece_reported bytes header sections [] t ∙ sym (piece_reported bytes header sections symbols t))

target-reported : (bytes : List ℕ) (header : Ehdr) (sections : List Shdr) (symbols : List Sym) (rise : Bool) (t : ℕ) (rows : List (ℕ × Shdr)) → (rise ≡ true → targets_rise 0 (drop 1 sections) ≡ true) → rows ≡ marked_rows (elf_from bytes header sections []) rise t → first_fault (list_checks bytes (t, rows)) ≡ first_fault (overlap_checks (elf_from bytes header sections symbols) (is_piece_in (elf_from bytes header sections symbols) t) t)
target-reported bytes header sections symbols rise t rows r e =
    ap (overlap_of bytes) e
    ∙ marked_reported (elf_from bytes header sections []) rise t r
    ∙ ap (overlap_of bytes) (same-pieces bytes header sections symbols t)
    ∙ where_piece (elf_from bytes header sections symbols) t (is_piece_in (elf_from bytes header sections symbols) t)

pub overlaps_reported : (bytes : List ℕ) (header : Ehdr) (sections : List Shdr) (symbols : List Sym) (rise : Bool) (lists : List (List (ℕ × Shdr))) → (rise ≡ true → targets_rise 0 (drop 1 sections) ≡ true) → length lists ≡ length sections → ((t : ℕ) → t < length sections → slice_index_or lists t [] ≡ marked_rows (elf_from bytes header sections []) rise t) → rows_fault (list_checks bytes) 1 (drop 1 lists) ≡ first_fault (flat_map (λ (row : ℕ × Shdr). overlap_checks (elf_from bytes header sections symbols) (is_piece_in (elf_from bytes header sections symbols) row.0) row.0) (numbered sections))
overlaps_reported bytes header sections symbols rise lists r e h =
    let lengths : length (drop 1 lists) ≡ length (drop 1 sections) = omega (arith, length-drop 1 lists, length-drop 1 sections, e) in
    let none : Shdr = record { sh_name = 0; sh_type = 0; sh_flags = 0; sh_addr = 0; sh_offset = 0; sh_size = 0; sh_link = 0; sh_info = 0; sh_addralign = 0; sh_entsize = 0 } in
    same_rows
    (list_checks bytes)
    (λ (row : ℕ × Shdr). overlap_checks (elf_from bytes header sections symbols) (is_piece_in (elf_from bytes header sections symbols) row.0) row.0)
    []
    none
    1
    (drop 1 lists)
    (drop 1 sections)
    lengths
    (λ i k s l. let within : 1 + i < length sections = omega (arith, l, e, length-drop 1 lists) in
    let rows : get_or (drop 1 lists) i [] ≡ marked_rows (elf_from bytes header sections []) rise k = get_or-drop 1 lists i [] ∙ h (1 + i) within ∙ ap (marked_rows (elf_from bytes header sections []) rise) (sym s) in
    target-reported bytes header sections symbols rise k (get_or (drop 1 lists) i []) r rows)

-- ---- the marks are enough

fields-more : (a b : ℕ) (bytes : List ℕ) (header : Shdr) → a ≤ b → FieldsFit a bytes header → FieldsFit b bytes header
fields-more a b bytes header l f k m = omega (arith, l, f k m)

rows-more : (a b : ℕ) (bytes : List ℕ) (rows : List (ℕ × Shdr)) → a ≤ b → RowsFit a bytes rows → RowsFit b bytes rows
rows-more a b bytes [] l f = tt
rows-more a b bytes (row ∷ rows) l f = (fields-more a b bytes row.1 l f.0, rows-more a b bytes rows l f.1)

rows-within : (size : ℕ) (target : Shdr) (bytes : List ℕ) (rows : List (ℕ × Shdr)) → room_with target rows ≤ size → RowsFit (room_of target) bytes rows → RowsFit size bytes rows
rows-within size target bytes [] l f = tt
rows-within size target bytes (row ∷ rows) l f = rows-more (room_of target) size bytes (row ∷ rows) l f

-- each target's fields fit in so many marks
pub lists_fit : (bytes : List ℕ) (header : Ehdr) (sections : List Shdr) (rise : Bool) (lists : List (List (ℕ × Shdr))) (size : ℕ) → TargetsFit (elf_from bytes header sections []) → length lists ≡ length sections → ((t : ℕ) → t < length sections → slice_index_or lists t [] ≡ marked_rows (elf_from bytes header sections []) rise t) → ((t : ℕ) (d : Shdr) → t < length sections → room_with (slice_index_or sections t d) (slice_index_or lists t []) ≤ size) → (t : ℕ) → 0 < t → t < length lists → RowsFit size bytes (slice_index_or lists t [])
lists_fit bytes header sections rise lists size f e h r zero a l = absurd (omega (arith, a))
lists_fit bytes header sections rise lists size f e h r (suc t) a l =
    let within : suc t < length sections = omega (arith, l, e) in
    let none : Shdr = record { sh_name = 0; sh_type = 0; sh_flags = 0; sh_addr = 0; sh_offset = 0; sh_size = 0; sh_link = 0; sh_info = 0; sh_addralign = 0; sh_entsize = 0 } in
    let target : Shdr = slice_index_or sections (suc t) none in
    let there : section_at (elf_from bytes header sections []) (suc t) ≡ Some target = slice_get-get_or sections (suc t) none within in
    rows-within size target bytes (slice_index_or lists (suc t) [])
    (r (suc t) none within)
    (subst (λ (rows : List (ℕ × Shdr)). RowsFit (room_of target) bytes rows) (sym (h (suc t) within)) (marked_fit (elf_from bytes header sections []) rise (suc t) (room_of target) (f (suc t) target there)))

-- ---- fields that rise

later : {X : Type 0} (p : X → Bool) (xs : List X) → list_all p xs ≡ true → list_all p (drop 1 xs) ≡ true
later p [] a = refl
later p (x ∷ xs) a = (both (p x) (list_all p xs) a).1

piece-apart : (elf : Elf) (t : ℕ) (piece : Bool) → rows_rise elf.bytes elf.sections ≡ true → first_fault (overlap_checks elf piece t) ≡ None
piece-apart elf t true e =
    let parts : (targets_rise 0 (drop 1 elf.sections) ≡ true) × (list_all (is_apart elf.bytes) elf.sections ≡ true) = both (targets_rise 0 (drop 1 elf.sections)) (list_all (is_apart elf.bytes) elf.sections) e in
    sym (where_piece elf t true) ∙ target_apart elf.bytes t 1 0 (drop 1 elf.sections) parts.0 (later (is_apart elf.bytes) elf.sections parts.1)
piece-apart elf t false e = refl

none-of-all : {X : Type 0} (f : X → List (Bool × InputFault)) → ((x : X) → first_fault (f x) ≡ None) → (xs : List X) → first_fault (flat_map f xs) ≡ None
none-of-all f h [] = refl
none-of-all f h (x ∷ xs) =
    fault_joined (f x) (flat_map f xs)
    ∙ ap (λ (o : Option InputFault). or_else o (first_fault (flat_map f xs))) (h x)
    ∙ none-of-all f h xs

-- where the fields of relocations rise, no two of a target share a byte
pub rising_reported : (bytes : List ℕ) (header : Ehdr) (sections : List Shdr) (symbols : List Sym) → rows_rise bytes sections ≡ true → first_fault (flat_map (λ (row : ℕ × Shdr). overlap_checks (elf_from bytes header sections symbols) (is_piece_in (elf_from bytes header sections symbols) row.0) row.0) (numbered sections)) ≡ None
rising_reported bytes header sections symbols e =
    let elf : Elf = elf_from bytes header sections symbols in
    none-of-all
    (λ (row : ℕ × Shdr). overlap_checks elf (is_piece_in elf row.0) row.0)
    (λ row. piece-apart elf row.0 (is_piece_in elf row.0) e)
    (numbered sections)
