-- Marks byte by byte, field by field and section by section.
use Rattle.std.specs.Prelude.{◌≡◌, refl, ℕ, zero, suc, ◌+◌, ◌-◌, ◌<◌, ◌≤◌, Bool, true, false, not, ◌&&◌, List, [], ◌∷◌, ◌++◌, cond, drop, length, slice_index_or, slice_set, Option, Some, None}
use Rattle.std.proofs.Common.{sym, ◌∙◌, ap, arith, get_or, drop-cons, add-one}
use Rattle.std.proofs.lemmas.List.{drop_all}
use Rattle.lk_elf.specs.declared.relocation.Rela.{Rela}
use Rattle.lk_elf.specs.declared.section_header.Shdr.{Shdr}
use Rattle.lk_report.specs.declared.faults.InputFault.{InputFault}
use Rattle.lk_report.specs.declared.faults.InputFault.TheVariants.{BadRela}
use Rattle.lk_obj_parts.specs.RelocationEntries.{entry_at}
use Rattle.lk_obj_parts.specs.FieldMarks.{RowsFit, FieldsFit, field_width, fields_painted, is_free, overlap_marked, painted, sites_from, sites_of, sites_of_row}
use Rattle.lk_obj_parts.proofs.RowFaults.{or_else}

-- ---- byte by byte

pub free_next : (marks : List Bool) (at width k : ℕ) → k < at + width → at ≤ k → slice_index_or marks k false ≡ false → is_free marks k (at + width - k) ≡ is_free marks (k + 1) (at + width - (k + 1))
free_next marks at width k l m e =
    let n : at + width - k ≡ suc (at + width - (k + 1)) = omega arith in
    ap (is_free marks k) n ∙ ap (λ t. not t && is_free marks (k + 1) (at + width - (k + 1))) e

pub free_stop : (marks : List Bool) (at width k : ℕ) → k < at + width → at ≤ k → slice_index_or marks k false ≡ true → is_free marks k (at + width - k) ≡ false
free_stop marks at width k l m e =
    let n : at + width - k ≡ suc (at + width - (k + 1)) = omega arith in
    ap (is_free marks k) n ∙ ap (λ t. not t && is_free marks (k + 1) (at + width - (k + 1))) e

pub painted_next : (mark : Bool) (marks : List Bool) (at width k : ℕ) → k < at + width → at ≤ k → painted mark marks k (at + width - k) ≡ painted mark (slice_set marks k mark) (k + 1) (at + width - (k + 1))
painted_next mark marks at width k l m =
    let n : at + width - k ≡ suc (at + width - (k + 1)) = omega arith in
    ap (painted mark marks k) n

pub painted_all : (mark : Bool) (marks : List Bool) (at width k : ℕ) → at + width ≤ k → painted mark marks k (at + width - k) ≡ marks
painted_all mark marks at width k l =
    let n : at + width - k ≡ 0 = omega arith in
    ap (painted mark marks k) n

-- ---- entry by entry

next : (bytes : List ℕ) (n : ℕ) (header : Shdr) (k m : ℕ) (rela : Rela) → k < m → rela ≡ entry_at bytes header k → sites_from bytes n header k (m - k) ≡ (n, k, rela) ∷ sites_from bytes n header (k + 1) (m - (k + 1))
next bytes n header k m rela l r =
    let e : m - k ≡ suc (m - (k + 1)) = omega arith in
    ap (sites_from bytes n header k) e ∙ ap (λ (x : Rela). (n, k, x) ∷ sites_from bytes n header (k + 1) (m - (k + 1))) (sym r)

pub site_here : (marks : List Bool) (bytes : List ℕ) (n : ℕ) (header : Shdr) (k m : ℕ) (rela : Rela) (width : ℕ) → k < m → rela ≡ entry_at bytes header k → width ≡ field_width rela → is_free marks rela.r_offset width ≡ false → overlap_marked marks (sites_from bytes n header k (m - k)) ≡ Some (BadRela n k)
site_here marks bytes n header k m rela width l r w e =
    ap (overlap_marked marks) (next bytes n header k m rela l r)
    ∙ ap (λ t. cond (not t) (Some (BadRela n k)) (overlap_marked (painted true marks rela.r_offset (field_width rela)) (sites_from bytes n header (k + 1) (m - (k + 1))))) (ap (is_free marks rela.r_offset) (sym w) ∙ e)

pub no_site_here : (marks : List Bool) (bytes : List ℕ) (n : ℕ) (header : Shdr) (k m : ℕ) (rela : Rela) (width : ℕ) → k < m → rela ≡ entry_at bytes header k → width ≡ field_width rela → is_free marks rela.r_offset width ≡ true → overlap_marked marks (sites_from bytes n header k (m - k)) ≡ overlap_marked (painted true marks rela.r_offset width) (sites_from bytes n header (k + 1) (m - (k + 1)))
no_site_here marks bytes n header k m rela width l r w e =
    ap (overlap_marked marks) (next bytes n header k m rela l r)
    ∙ ap (λ t. cond (not t) (Some (BadRela n k)) (overlap_marked (painted true marks rela.r_offset (field_width rela)) (sites_from bytes n header (k + 1) (m - (k + 1))))) (ap (is_free marks rela.r_offset) (sym w) ∙ e)
    ∙ ap (λ v. overlap_marked (painted true marks rela.r_offset v) (sites_from bytes n header (k + 1) (m - (k + 1)))) (sym w)

pub no_site_left : (marks : List Bool) (bytes : List ℕ) (n : ℕ) (header : Shdr) (k m : ℕ) → m ≤ k → overlap_marked marks (sites_from bytes n header k (m - k)) ≡ None
no_site_left marks bytes n header k m l =
    let e : m - k ≡ 0 = omega arith in
    ap (λ j. overlap_marked marks (sites_from bytes n header k j)) e

pub site_painted : (mark : Bool) (marks : List Bool) (bytes : List ℕ) (n : ℕ) (header : Shdr) (k m : ℕ) (rela : Rela) (width : ℕ) → k < m → rela ≡ entry_at bytes header k → width ≡ field_width rela → fields_painted mark marks (sites_from bytes n header k (m - k)) ≡ fields_painted mark (painted mark marks rela.r_offset width) (sites_from bytes n header (k + 1) (m - (k + 1)))
site_painted mark marks bytes n header k m rela width l r w =
    ap (fields_painted mark marks) (next bytes n header k m rela l r)
    ∙ ap (λ v. fields_painted mark (painted mark marks rela.r_offset v) (sites_from bytes n header (k + 1) (m - (k + 1)))) (sym w)

pub all_painted : (mark : Bool) (marks : List Bool) (bytes : List ℕ) (n : ℕ) (header : Shdr) (k m : ℕ) → m ≤ k → fields_painted mark marks (sites_from bytes n header k (m - k)) ≡ marks
all_painted mark marks bytes n header k m l =
    let e : m - k ≡ 0 = omega arith in
    ap (λ j. fields_painted mark marks (sites_from bytes n header k j)) e

-- ---- section by section

overlap_step : (b : Bool) (f : InputFault) (whole first second : Option InputFault) → whole ≡ or_else first second → cond b (Some f) whole ≡ or_else (cond b (Some f) first) second
overlap_step true f whole first second e = refl
overlap_step false f whole first second e = e

overlap_joined : (marks : List Bool) (xs ys : List (ℕ × ℕ × Rela)) → overlap_marked marks (xs ++ ys) ≡ or_else (overlap_marked marks xs) (overlap_marked (fields_painted true marks xs) ys)
overlap_joined marks [] ys = refl
overlap_joined marks (site ∷ xs) ys =
    let after : List Bool = painted true marks site.2.r_offset (field_width site.2) in
    overlap_step
    (not (is_free marks site.2.r_offset (field_width site.2)))
    (BadRela site.0 site.1)
    (overlap_marked after (xs ++ ys))
    (overlap_marked after xs)
    (overlap_marked (fields_painted true after xs) ys)
    (overlap_joined after xs ys)

painted_joined : (mark : Bool) (marks : List Bool) (xs ys : List (ℕ × ℕ × Rela)) → fields_painted mark marks (xs ++ ys) ≡ fields_painted mark (fields_painted mark marks xs) ys
painted_joined mark marks [] ys = refl
painted_joined mark marks (site ∷ xs) ys = painted_joined mark (painted mark marks site.2.r_offset (field_width site.2)) xs ys

next_row : (bytes : List ℕ) (rows : List (ℕ × Shdr)) (i : ℕ) (d : ℕ × Shdr) → i < length rows → sites_of bytes (drop i rows) ≡ sites_of_row bytes (get_or rows i d) ++ sites_of bytes (drop (i + 1) rows)
next_row bytes rows i d l =
    ap (sites_of bytes) (drop-cons rows i d l) ∙ ap (λ n. sites_of_row bytes (get_or rows i d) ++ sites_of bytes (drop n rows)) (sym (add-one i))

pub row_here : (marks : List Bool) (bytes : List ℕ) (rows : List (ℕ × Shdr)) (i : ℕ) (d : ℕ × Shdr) (f : InputFault) → i < length rows → overlap_marked marks (sites_of_row bytes (get_or rows i d)) ≡ Some f → overlap_marked marks (sites_of bytes (drop i rows)) ≡ Some f
row_here marks bytes rows i d f l e =
    ap (overlap_marked marks) (next_row bytes rows i d l)
    ∙ overlap_joined marks (sites_of_row bytes (get_or rows i d)) (sites_of bytes (drop (i + 1) rows))
    ∙ ap (λ (o : Option InputFault). or_else o (overlap_marked (fields_painted true marks (sites_of_row bytes (get_or rows i d))) (sites_of bytes (drop (i + 1) rows)))) e

pub no_row_here : (marks new : List Bool) (bytes : List ℕ) (rows : List (ℕ × Shdr)) (i : ℕ) (d : ℕ × Shdr) → i < length rows → overlap_marked marks (sites_of_row bytes (get_or rows i d)) ≡ None → new ≡ fields_painted true marks (sites_of_row bytes (get_or rows i d)) → overlap_marked marks (sites_of bytes (drop i rows)) ≡ overlap_marked new (sites_of bytes (drop (i + 1) rows))
no_row_here marks new bytes rows i d l e h =
    ap (overlap_marked marks) (next_row bytes rows i d l)
    ∙ overlap_joined marks (sites_of_row bytes (get_or rows i d)) (sites_of bytes (drop (i + 1) rows))
    ∙ ap (λ (o : Option InputFault). or_else o (overlap_marked (fields_painted true marks (sites_of_row bytes (get_or rows i d))) (sites_of bytes (drop (i + 1) rows)))) e
    ∙ ap (λ m. overlap_marked m (sites_of bytes (drop (i + 1) rows))) (sym h)

pub no_row_left : (marks : List Bool) (bytes : List ℕ) (rows : List (ℕ × Shdr)) (i : ℕ) → length rows ≤ i → overlap_marked marks (sites_of bytes (drop i rows)) ≡ None
no_row_left marks bytes rows i l = ap (λ rest. overlap_marked marks (sites_of bytes rest)) (drop_all i rows l)

pub row_painted : (mark : Bool) (marks new : List Bool) (bytes : List ℕ) (rows : List (ℕ × Shdr)) (i : ℕ) (d : ℕ × Shdr) → i < length rows → new ≡ fields_painted mark marks (sites_of_row bytes (get_or rows i d)) → fields_painted mark marks (sites_of bytes (drop i rows)) ≡ fields_painted mark new (sites_of bytes (drop (i + 1) rows))
row_painted mark marks new bytes rows i d l h =
    ap (fields_painted mark marks) (next_row bytes rows i d l)
    ∙ painted_joined mark marks (sites_of_row bytes (get_or rows i d)) (sites_of bytes (drop (i + 1) rows))
    ∙ ap (λ m. fields_painted mark m (sites_of bytes (drop (i + 1) rows))) (sym h)

pub rows_painted : (mark : Bool) (marks : List Bool) (bytes : List ℕ) (rows : List (ℕ × Shdr)) (i : ℕ) → length rows ≤ i → fields_painted mark marks (sites_of bytes (drop i rows)) ≡ marks
rows_painted mark marks bytes rows i l = ap (λ rest. fields_painted mark marks (sites_of bytes rest)) (drop_all i rows l)

pub row_fits : (size : ℕ) (bytes : List ℕ) (rows : List (ℕ × Shdr)) (i : ℕ) (d : ℕ × Shdr) → i < length rows → RowsFit size bytes rows → FieldsFit size bytes (get_or rows i d).1
row_fits size bytes [] i d l h = absurd (omega (arith, l))
row_fits size bytes (row ∷ rows) zero d l h = h.0
row_fits size bytes (row ∷ rows) (suc i) d l h = row_fits size bytes rows i d (omega (arith, l)) h.1
