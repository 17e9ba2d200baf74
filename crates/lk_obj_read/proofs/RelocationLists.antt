-- The relocations of each section, gathered in one pass.
use Rattle.std.specs.Prelude.{◌≡◌, refl, ℕ, zero, suc, ◌+◌, ◌==◌, ◌<◌, ◌≤◌, Bool, true, false, ◌&&◌, cond, List, [], ◌∷◌, ◌++◌, drop, filter, flat_map, length, nat_eq, replicate, slice_index_or, slice_set, ◌≢◌}
use mathlib.Core.Logic.{⊎_elim}
use Rattle.std.specs.List.{enumerate_from}
use Rattle.std.proofs.Common.{sym, ◌∙◌, ap, get_or, drop-cons, add-one, append_assoc, get_or-set_other}
use Rattle.std.proofs.lemmas.Bool.Decides.{eqb_tells}
use Rattle.std.proofs.lemmas.Grind.{get_or-set_at}
use Rattle.std.proofs.lemmas.List.{drop_all, append-nil, get_or_default}
use Rattle.lk_elf.specs.Numbers.{sht_rela}
use Rattle.lk_elf.specs.declared.section_header.Shdr.{Shdr}
use Rattle.lk_elf.specs.declared.relocation.Rela.{Rela}
use Rattle.lk_model.specs.Objects.{relas_under, relocations_in}
use Rattle.lk_model.specs.Views.{Elf}
use Rattle.lk_obj_parts.specs.ElfViews.{elf_from}
use Rattle.lk_obj_parts.specs.RelocationEntries.{entry_count}
use Rattle.lk_obj_read.specs.RelaLists.{relas_at}
use Rattle.lk_obj_read.specs.RelocationLists.{is_on, relas_of, relas_on, with_relas}

-- ---- one section more

put : (on : Bool) (relas rest more : List Rela) → cond on (relas ++ more) relas ++ rest ≡ relas ++ cond on (more ++ rest) rest
put true relas rest more = append_assoc relas more rest
put false relas rest more = refl

flat : (on : Bool) (bytes : List ℕ) (h : Shdr) (hs : List Shdr) → flat_map (relas_of bytes) (cond on (h ∷ hs) hs) ≡ cond on (relas_of bytes h ++ flat_map (relas_of bytes) hs) (flat_map (relas_of bytes) hs)
flat true bytes h hs = refl
flat false bytes h hs = refl

pub relas_put : (bytes : List ℕ) (t i : ℕ) (headers : List Shdr) (relas new : List Rela) (d : Shdr) → i < length headers → new ≡ with_relas bytes t relas (get_or headers i d) → new ++ relas_on bytes t (drop (i + 1) headers) ≡ relas ++ relas_on bytes t (drop i headers)
relas_put bytes t i headers relas new d l e =
    ap (λ r. r ++ relas_on bytes t (drop (i + 1) headers)) e
    ∙ put (is_on t (get_or headers i d)) relas (relas_on bytes t (drop (i + 1) headers)) (relas_of bytes (get_or headers i d))
    ∙ ap (λ r. relas ++ r) (sym (flat (is_on t (get_or headers i d)) bytes (get_or headers i d) (filter (is_on t) (drop (i + 1) headers))))
    ∙ ap (λ n. relas ++ relas_on bytes t (get_or headers i d ∷ drop n headers)) (add-one i)
    ∙ ap (λ hs. relas ++ relas_on bytes t hs) (sym (drop-cons headers i d l))

pub all_relas_put : (bytes : List ℕ) (t i : ℕ) (headers : List Shdr) (relas : List Rela) → length headers ≤ i → relas ++ relas_on bytes t (drop i headers) ≡ relas
all_relas_put bytes t i headers relas l = ap (λ hs. relas ++ relas_on bytes t hs) (drop_all i headers l) ∙ append-nil relas

-- ---- the entries of a section put at the end of its target's list

pub put_at :
    (bytes : List ℕ) (lists : List (List Rela)) (section : Shdr) (d new entries : List Rela) (t : ℕ)
    → section.sh_type ≡ sht_rela → section.sh_info < length lists → entries ≡ relas_of bytes section → new ≡ slice_index_or lists section.sh_info d ++ entries
    → slice_index_or (slice_set lists section.sh_info new) t [] ≡ with_relas bytes t (slice_index_or lists t []) section
put_at bytes lists section d new entries t is within reported e = ⊎_elim (λ p. here p.0 p.1) (λ p. away p.0 p.1) (eqb_tells section.sh_info t)
  where
    tested : is_on t section ≡ nat_eq section.sh_info t
    tested = ap (λ k. k == sht_rela && section.sh_info == t) is

    here : nat_eq section.sh_info t ≡ true → section.sh_info ≡ t → slice_index_or (slice_set lists section.sh_info new) t [] ≡ with_relas bytes t (slice_index_or lists t []) section
    here found same =
        get_or-set_at lists section.sh_info t new [] (sym same) within
        ∙ e
        ∙ ap (λ r. r ++ entries) (get_or_default lists section.sh_info d [] within ∙ ap (λ k. slice_index_or lists k []) same)
        ∙ ap (λ r. slice_index_or lists t [] ++ r) reported
        ∙ ap (λ b. cond b (slice_index_or lists t [] ++ relas_of bytes section) (slice_index_or lists t [])) (sym (tested ∙ found))

    away : nat_eq section.sh_info t ≡ false → section.sh_info ≢ t → slice_index_or (slice_set lists section.sh_info new) t [] ≡ with_relas bytes t (slice_index_or lists t []) section
    away apart differ =
        get_or-set_other lists section.sh_info t new [] (λ same. differ (sym same))
        ∙ ap (λ b. cond b (slice_index_or lists t [] ++ relas_of bytes section) (slice_index_or lists t [])) (sym (tested ∙ apart))

pub listed : (file bytes : List ℕ) (section : Shdr) (count : ℕ) → bytes ≡ file → count ≡ entry_count bytes section → relas_at file section.sh_offset count ≡ relas_of file section
listed file bytes section count same reported = ap (relas_at file section.sh_offset) (reported ∙ ap (λ b. entry_count b section) same)

-- ---- the empty lists

last : (n : ℕ) → replicate {A = List Rela} (suc n) [] ≡ replicate n [] ++ [] ∷ []
last zero = refl
last (suc n) = ap (λ (rest : List (List Rela)). [] ∷ rest) (last n)

pub empty_more : (n : ℕ) → replicate {A = List Rela} (n + 1) [] ≡ replicate n [] ++ [] ∷ []
empty_more n = ap (λ k. replicate {A = List Rela} k []) (add-one n) ∙ last n

pub none_yet : (n t : ℕ) → ◌≡◌ {A = List Rela} (slice_index_or (replicate n []) t []) []
none_yet zero t = refl
none_yet (suc n) zero = refl
none_yet (suc n) (suc t) = none_yet n t

-- ---- as the file's definitions have them

pub relas_reported : (elf : Elf) (header : Shdr) → relas_under elf header ≡ relas_of elf.bytes header
unfolding relas_under
relas_reported elf header = refl

-- a file of these bytes alone
abbrev pub bare : List ℕ → Elf
bare bytes = elf_from bytes (record { e_ident = []; e_type = 0; e_machine = 0; e_version = 0; e_entry = 0; e_phoff = 0; e_shoff = 0; e_flags = 0; e_ehsize = 0; e_phentsize = 0; e_phnum = 0; e_shentsize = 0; e_shnum = 0; e_shstrndx = 0 }) [] []

-- the sections of relocations with their numbers, and without
abbrev is_row_on : ℕ → ℕ × Shdr → Bool
is_row_on t row = row.1.sh_type == sht_rela && row.1.sh_info == t

flat_row : (on : Bool) (elf : Elf) (row : ℕ × Shdr) (rows : List (ℕ × Shdr)) → flat_map (λ (r : ℕ × Shdr). relas_under elf r.1) (cond on (row ∷ rows) rows) ≡ cond on (relas_under elf row.1 ++ flat_map (λ (r : ℕ × Shdr). relas_under elf r.1) rows) (flat_map (λ (r : ℕ × Shdr). relas_under elf r.1) rows)
flat_row true elf row rows = refl
flat_row false elf row rows = refl

unnumbered : (elf : Elf) (t n : ℕ) (hs : List Shdr) → flat_map (λ (row : ℕ × Shdr). relas_under elf row.1) (filter (is_row_on t) (enumerate_from n hs)) ≡ relas_on elf.bytes t hs
unnumbered elf t n [] = refl
unnumbered elf t n (h ∷ hs) =
    flat_row (is_on t h) elf (n, h) (filter (is_row_on t) (enumerate_from (n + 1) hs))
    ∙ ap (λ r. cond (is_on t h) (r ++ flat_map (λ (row : ℕ × Shdr). relas_under elf row.1) (filter (is_row_on t) (enumerate_from (n + 1) hs))) (flat_map (λ (row : ℕ × Shdr). relas_under elf row.1) (filter (is_row_on t) (enumerate_from (n + 1) hs)))) (relas_reported elf h)
    ∙ ap (λ r. cond (is_on t h) (relas_of elf.bytes h ++ r) r) (unnumbered elf t (n + 1) hs)
    ∙ sym (flat (is_on t h) elf.bytes h (filter (is_on t) hs))

pub relocations_reported : (elf : Elf) (t : ℕ) → relocations_in elf t ≡ relas_on elf.bytes t (drop 1 elf.sections)
unfolding relocations_in
relocations_reported elf t = unnumbered elf t 1 (drop 1 elf.sections)
