-- Marks on the bytes of a target: where no byte was marked before, a field meets a mark exactly where it shares a byte
-- with an earlier field; and once all fields are cleared again, no byte is marked.
use Rattle.std.specs.Prelude.{◌≡◌, refl, ℕ, zero, suc, ◌+◌, ◌<◌, ◌≤◌, Bool, true, false, not, ◌&&◌, ◌||◌, cond, nat_lt, nat_le, List, [], ◌∷◌, ◌++◌, length, replicate, slice_index_or, slice_set, Some}
use Rattle.std.specs.List.{list_any}
use Rattle.std.proofs.Common.{sym, ◌∙◌, ap, arith}
use Rattle.std.proofs.lemmas.Bool.{cases_eq}
use Rattle.std.proofs.lemmas.Bool.Decides.{nat_tests}
use Rattle.std.proofs.lemmas.List.{ext_get_or, get_or-set_other, get_or-set_same, length-set}
use mathlib.Core.Logic.{⊎_elim}
use Rattle.lk_elf.specs.declared.relocation.Rela.{Rela}
use Rattle.lk_elf.specs.declared.section_header.Shdr.{Shdr}
use Rattle.lk_report.specs.declared.faults.InputFault.TheVariants.{BadRela}
use Rattle.lk_model.specs.Checks.{first_fault}
use Rattle.lk_model.specs.ObjectChecks.{overlap_checks_after, share_a_byte, share_field}
use Rattle.lk_obj_parts.specs.RelocationEntries.{entry_count}
use Rattle.lk_obj_parts.specs.FieldMarks.{FieldsFit, RowsFit, field_width, fields_painted, is_free, overlap_marked, painted, sites_from, sites_of, sites_of_row}

-- a byte among these
abbrev pub is_in : ℕ → ℕ → ℕ → Bool
is_in at width k = nat_le at k && nat_lt k (at + width)

-- a byte of the field of a relocation
abbrev pub has_byte : ℕ → Rela → Bool
has_byte k rela = is_in rela.r_offset (field_width rela) k

-- ---- the bytes that were given a mark

length-painted : (mark : Bool) (marks : List Bool) (at width : ℕ) → length (painted mark marks at width) ≡ length marks
length-painted mark marks at zero = refl
length-painted mark marks at (suc width) = length-painted mark (slice_set marks at mark) (at + 1) width ∙ length-set marks at mark

none-in : (at k : ℕ) → false ≡ is_in at 0 k
none-in at k = grind (arith, nat_tests)

first-in : (at width : ℕ) → true ≡ is_in at (suc width) at
first-in at width = grind (arith, nat_tests)

past-in : (at width : ℕ) → false ≡ is_in (at + 1) width at
past-in at width = grind (arith, nat_tests)

other-in : (at width k : ℕ) → (k ≡ at → ⊥) → is_in (at + 1) width k ≡ is_in at (suc width) k
other-in at width k n = grind (arith, nat_tests)

set-here : (marks : List Bool) (at k : ℕ) (mark : Bool) → at < length marks → k ≡ at → slice_index_or (slice_set marks at mark) k false ≡ mark
set-here marks at k mark l e = ap (λ j. slice_index_or (slice_set marks at mark) j false) e ∙ get_or-set_same marks at mark false l

at-painted : (mark : Bool) (marks : List Bool) (at width k : ℕ) → at + width ≤ length marks → slice_index_or (painted mark marks at width) k false ≡ cond (is_in at width k) mark (slice_index_or marks k false)
at-painted mark marks at zero k l = ap (λ t. cond t mark (slice_index_or marks k false)) (none-in at k)
at-painted mark marks at (suc width) k l =
    let below : at < length marks = omega (arith, l) in
    let fits : at + 1 + width ≤ length (slice_set marks at mark) = omega (arith, l, length-set marks at mark) in
    at-painted mark (slice_set marks at mark) (at + 1) width k fits
    ∙ ⊎_elim
    (λ e. ap (λ j. cond (is_in (at + 1) width j) mark (slice_index_or (slice_set marks at mark) j false)) e
    ∙ ap (λ t. cond t mark (slice_index_or (slice_set marks at mark) at false)) (sym (past-in at width))
    ∙ get_or-set_same marks at mark false below
    ∙ ap (λ t. cond t mark (slice_index_or marks at false)) (first-in at width)
    ∙ ap (λ j. cond (is_in at (suc width) j) mark (slice_index_or marks j false)) (sym e))
    (λ n. ap (λ t. cond t mark (slice_index_or (slice_set marks at mark) k false)) (other-in at width k n)
    ∙ ap (λ t. cond (is_in at (suc width) k) mark t) (get_or-set_other marks at k mark false n))
    (cases_eq k at)

-- ---- a field and those before it

-- the marks are the bytes of these fields
abbrev pub AreBytesOf : List Bool → List Rela → Type 0
AreBytesOf marks earlier = (k : ℕ) → slice_index_or marks k false ≡ list_any (has_byte k) earlier

-- one of these bytes is of that field
abbrev meets : Rela → ℕ → ℕ → Bool
meets rela b zero = false
meets rela b (suc v) = has_byte b rela || meets rela (b + 1) v

any-none : {X : Type 0} (xs : List X) → false ≡ list_any (λ x. false) xs
any-none [] = refl
any-none (x ∷ xs) = any-none xs

or-mix : (p q r s : Bool) → ((p || q) || (r || s)) ≡ ((p || r) || (q || s))
or-mix true q r s = refl
or-mix false true true s = refl
or-mix false true false s = refl
or-mix false false r s = refl

any-or : {X : Type 0} (p q : X → Bool) (xs : List X) → (list_any p xs || list_any q xs) ≡ list_any (λ x. p x || q x) xs
any-or p q [] = refl
any-or p q (x ∷ xs) = or-mix (p x) (list_any p xs) (q x) (list_any q xs) ∙ ap (λ t. (p x || q x) || t) (any-or p q xs)

not-mix : (p q : Bool) → not (not p && q) ≡ (p || not q)
not-mix true q = refl
not-mix false q = refl

met : (marks : List Bool) (earlier : List Rela) → AreBytesOf marks earlier → (b v : ℕ) → not (is_free marks b v) ≡ list_any (λ (rela : Rela). meets rela b v) earlier
met marks earlier h b zero = any-none earlier
met marks earlier h b (suc v) =
    not-mix (slice_index_or marks b false) (is_free marks (b + 1) v)
    ∙ ap (λ t. t || not (is_free marks (b + 1) v)) (h b)
    ∙ ap (λ t. list_any (has_byte b) earlier || t) (met marks earlier h (b + 1) v)
    ∙ any-or (has_byte b) (λ (rela : Rela). meets rela (b + 1) v) earlier

meets-share : (rela : Rela) (at width : ℕ) → at ≡ rela.r_offset → width ≡ field_width rela → (b v : ℕ) → meets rela b v ≡ share_a_byte b v at width
meets-share rela at width e f b zero = grind arith
meets-share rela at width e f b (suc v) =
    ap (λ t. has_byte b rela || t) (meets-share rela at width e f (b + 1) v)
    ∙ ap (λ t. is_in t (field_width rela) b || share_a_byte (b + 1) v at width) (sym e)
    ∙ ap (λ t. is_in at t b || share_a_byte (b + 1) v at width) (sym f)
    ∙ grind arith

any-same : {X : Type 0} (p q : X → Bool) → ((x : X) → p x ≡ q x) → (xs : List X) → list_any p xs ≡ list_any q xs
any-same p q h [] = refl
any-same p q h (x ∷ xs) = ap (λ t. t || list_any p xs) (h x) ∙ ap (λ t. q x || t) (any-same p q h xs)

-- a field meets a mark where it shares a byte with an earlier one
meets-earlier : (marks : List Bool) (earlier : List Rela) (rela : Rela) → AreBytesOf marks earlier → not (is_free marks rela.r_offset (field_width rela)) ≡ list_any (share_field rela) earlier
meets-earlier marks earlier rela h =
    met marks earlier h rela.r_offset (field_width rela)
    ∙ any-same (λ (o : Rela). meets o rela.r_offset (field_width rela)) (share_field rela) (λ o. meets-share o o.r_offset (field_width o) refl refl rela.r_offset (field_width rela)) earlier

cond-or : (t u : Bool) → cond t true u ≡ (t || u)
cond-or true u = refl
cond-or false u = refl

one_more : (marks : List Bool) (earlier : List Rela) (rela : Rela) → rela.r_offset + field_width rela ≤ length marks → AreBytesOf marks earlier → AreBytesOf (painted true marks rela.r_offset (field_width rela)) (rela ∷ earlier)
one_more marks earlier rela l h k =
    at-painted true marks rela.r_offset (field_width rela) k l
    ∙ ap (cond (has_byte k rela) true) (h k)
    ∙ cond-or (has_byte k rela) (list_any (has_byte k) earlier)

-- ---- the fields of a target, one after another

-- these fields fit in a target of this size
abbrev pub SitesFit : ℕ → List (ℕ × ℕ × Rela) → Type 0
SitesFit size [] = Unit {0}
SitesFit size (site ∷ sites) = (site.2.r_offset + field_width site.2 ≤ size) × SitesFit size sites

reported : (size : ℕ) (sites : List (ℕ × ℕ × Rela)) → SitesFit size sites → (marks : List Bool) (earlier : List Rela) → length marks ≡ size → AreBytesOf marks earlier → overlap_marked marks sites ≡ first_fault (overlap_checks_after earlier sites)
unfolding overlap_checks_after
reported size [] f marks earlier e h = refl
reported size (site ∷ sites) f marks earlier e h =
    let after : List Bool = painted true marks site.2.r_offset (field_width site.2) in
    let fits : site.2.r_offset + field_width site.2 ≤ length marks = omega (arith, f.0, e) in
    ap (λ t. cond t (Some (BadRela site.0 site.1)) (overlap_marked after sites)) (meets-earlier marks earlier site.2 h)
    ∙ ap (cond (list_any (share_field site.2) earlier) (Some (BadRela site.0 site.1)))
    (reported size sites f.1 after (site.2 ∷ earlier) (length-painted true marks site.2.r_offset (field_width site.2) ∙ e) (one_more marks earlier site.2 fits h))

unmarked : (n k : ℕ) → slice_index_or (replicate n false) k false ≡ false
unmarked zero k = refl
unmarked (suc n) zero = refl
unmarked (suc n) (suc k) = unmarked n k

-- ---- the marks afterwards

length-all : (mark : Bool) (sites : List (ℕ × ℕ × Rela)) (marks : List Bool) → length (fields_painted mark marks sites) ≡ length marks
length-all mark [] marks = refl
length-all mark (site ∷ sites) marks =
    length-all mark sites (painted mark marks site.2.r_offset (field_width site.2)) ∙ length-painted mark marks site.2.r_offset (field_width site.2)

-- a byte of one of these fields
abbrev pub is_byte : ℕ → List (ℕ × ℕ × Rela) → Bool
is_byte k sites = list_any (λ (site : ℕ × ℕ × Rela). has_byte k site.2) sites

cond-step : (mark t u v : Bool) → cond u mark (cond t mark v) ≡ cond (t || u) mark v
cond-step mark true true v = refl
cond-step mark true false v = refl
cond-step mark false u v = refl

at-all : (mark : Bool) (size : ℕ) (sites : List (ℕ × ℕ × Rela)) → SitesFit size sites → (marks : List Bool) → length marks ≡ size → (k : ℕ) → slice_index_or (fields_painted mark marks sites) k false ≡ cond (is_byte k sites) mark (slice_index_or marks k false)
at-all mark size [] f marks e k = refl
at-all mark size (site ∷ sites) f marks e k =
    let fits : site.2.r_offset + field_width site.2 ≤ length marks = omega (arith, f.0, e) in
    at-all mark size sites f.1 (painted mark marks site.2.r_offset (field_width site.2)) (length-painted mark marks site.2.r_offset (field_width site.2) ∙ e) k
    ∙ ap (cond (is_byte k sites) mark) (at-painted mark marks site.2.r_offset (field_width site.2) k fits)
    ∙ cond-step mark (has_byte k site.2) (is_byte k sites) (slice_index_or marks k false)

cond-clear : (t v : Bool) → v ≡ false → cond t false (cond t true v) ≡ false
cond-clear true v e = refl
cond-clear false v e = e

-- ---- the fields of sections fit

all_fit : (size : ℕ) (bytes : List ℕ) (n : ℕ) (header : Shdr) → FieldsFit size bytes header → (m k : ℕ) → k + m ≤ entry_count bytes header → SitesFit size (sites_from bytes n header k m)
all_fit size bytes n header f zero k l = tt
all_fit size bytes n header f (suc m) k l =
    (f k (omega (arith, l)), all_fit size bytes n header f m (k + 1) (omega (arith, l)))

joined_fit : (size : ℕ) (xs ys : List (ℕ × ℕ × Rela)) → SitesFit size xs → SitesFit size ys → SitesFit size (xs ++ ys)
joined_fit size [] ys f g = g
joined_fit size (x ∷ xs) ys f g = (f.0, joined_fit size xs ys f.1 g)

rows_fit : (size : ℕ) (bytes : List ℕ) (rows : List (ℕ × Shdr)) → RowsFit size bytes rows → SitesFit size (sites_of bytes rows)
rows_fit size bytes [] f = tt
rows_fit size bytes (row ∷ rows) f =
    joined_fit size (sites_of_row bytes row) (sites_of bytes rows)
    (all_fit size bytes row.0 row.1 f.0 (entry_count bytes row.1) 0 (omega arith))
    (rows_fit size bytes rows f.1)

-- ---- a target

-- where no byte was marked, the overlap found is the first field that shares a byte with an earlier one
pub overlaps_reported : (marks : List Bool) (bytes : List ℕ) (rows : List (ℕ × Shdr)) → marks ≡ replicate (length marks) false → RowsFit (length marks) bytes rows → overlap_marked marks (sites_of bytes rows) ≡ first_fault (overlap_checks_after [] (sites_of bytes rows))
overlaps_reported marks bytes rows e f =
    reported (length marks) (sites_of bytes rows) (rows_fit (length marks) bytes rows f) marks [] refl
    (λ k. ap (λ m. slice_index_or m k false) e ∙ unmarked (length marks) k)

-- once all fields are cleared again, no byte is marked
pub cleared_again : (marks : List Bool) (bytes : List ℕ) (rows : List (ℕ × Shdr)) → marks ≡ replicate (length marks) false → RowsFit (length marks) bytes rows → fields_painted false (fields_painted true marks (sites_of bytes rows)) (sites_of bytes rows) ≡ marks
cleared_again marks bytes rows e f =
    let sites : List (ℕ × ℕ × Rela) = sites_of bytes rows in
    let fits : SitesFit (length marks) sites = rows_fit (length marks) bytes rows f in
    let same : length (fields_painted true marks sites) ≡ length marks = length-all true sites marks in
    ext_get_or
    false
    (fields_painted false (fields_painted true marks sites) sites)
    marks
    (length-all false sites (fields_painted true marks sites) ∙ same)
    (λ k l. at-all false (length marks) sites fits (fields_painted true marks sites) same k
    ∙ ap (cond (is_byte k sites) false) (at-all true (length marks) sites fits marks refl k)
    ∙ cond-clear (is_byte k sites) (slice_index_or marks k false) (ap (λ m. slice_index_or m k false) e ∙ unmarked (length marks) k)
    ∙ sym (ap (λ m. slice_index_or m k false) e ∙ unmarked (length marks) k))
