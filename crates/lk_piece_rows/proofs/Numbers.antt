-- A number that is put at the index of a section is found for that section, and for no other.
use Rattle.std.proofs.Common.{◌≡◌, refl, sym, ap, ◌∙◌, arith, ℕ, zero, suc, ◌+◌, ◌-◌, ◌<◌, ◌≤◌, ◌==◌, ◌&&◌, cond, Bool, true, false, inl, inr, List, [], ◌∷◌, drop, get_or, length, replicate, set, slice_get, Option, Some, None}
use Rattle.std.proofs.lemmas.Bool.{cases_eq, eq-eqb, ne_eqb}
use Rattle.std.proofs.lemmas.Bool.Decides.{nat_tests}
use Rattle.std.proofs.lemmas.List.{drop_more, get_or-set_other, get_or-set_same}
use Rattle.lk_model.specs.Keys.{same_piece}
use Rattle.lk_model.specs.declared.layouts.PieceId.TheVariants as id
use Rattle.lk_model.specs.declared.layouts.PieceRow.{PieceRow}
use Rattle.lk_piece_rows.specs.RowNumbers.{AreConsecutive, index_in, number_at, number_in, row_among, row_numbered, section_count, sections_with}
use Rattle.lk_piece_rows.specs.declared.section_ranges.SectionRange.{SectionRange}
use Rattle.lk_piece_rows.proofs.Counts.{row_counted}
use Rattle.lk_piece_rows.proofs.Ranges.{same_index, within}

set_at : (xs : List ℕ) (p x q : ℕ) → p < length xs → get_or (set xs p x) q 0 ≡ cond (q == p) x (get_or xs q 0)
set_at xs p x q less = elim (cases_eq q p) [
  | inl is ↦
      ap (λ m. get_or (set xs p x) m 0) is ∙ get_or-set_same xs p x 0 less ∙ ap (λ b. cond b x (get_or xs q 0)) (sym (eq-eqb q p is))
  | inr other ↦ get_or-set_other xs p q x 0 other ∙ ap (λ b. cond b x (get_or xs q 0)) (sym (ne_eqb q p other))
]

-- a section with an index is not one without
not_same : (rs : List SectionRange) (a b n s p : ℕ) → index_in rs a b ≡ Some p → index_in rs n s ≡ None → (t u : Bool) → (a == n) ≡ t → (b == s) ≡ u → (t && u) ≡ false
not_same rs a b n s p first second true true one other =
    let same_input : a ≡ n = grind (arith, nat_tests) in
    let same_section : b ≡ s = grind (arith, nat_tests) in
    let is : index_in rs a b ≡ index_in rs n s = λ i. index_in rs (same_input i) (same_section i) in
    absurd cc
not_same rs a b n s p first second true false one other = refl
not_same rs a b n s p first second false u one other = refl

pub noted : (rs : List SectionRange) (old new : List ℕ) (a b n s p number : ℕ) → AreConsecutive 0 rs (length old) → index_in rs a b ≡ Some p → new ≡ set old p number
    → number_in rs new n s ≡ cond ((a == n) && (b == s)) number (number_in rs old n s)
noted rs old new a b n s p number laid at put =
    ap (λ l. number_in rs l n s) put ∙ by (index_in rs n s) refl
  where
    inside : p < length old
    inside = (within 0 rs (length old) a b p laid at).1

    by : (o : Option ℕ) → index_in rs n s ≡ o → number_at (set old p number) o ≡ cond ((a == n) && (b == s)) number (number_at old o)
    by None is = ap (λ t. cond t number 0) (sym (not_same rs a b n s p at is (a == n) (b == s) refl refl))
    by (Some q) is = set_at old p number q inside ∙ ap (λ t. cond t number (get_or old q 0)) (same_index 0 rs (length old) a b n s p q laid at is)

-- no number is found among zeros
none_in : (count k d : ℕ) → get_or (replicate count d) k d ≡ d
none_in zero k d = refl
none_in (suc count) zero d = refl
none_in (suc count) (suc k) d = none_in count k d

pub none_found : (rs : List SectionRange) (count n s : ℕ) (numbers : List ℕ) → numbers ≡ replicate count 0 → number_in rs numbers n s ≡ 0
none_found rs count n s numbers is = ap (λ (l : List ℕ). number_in rs l n s) is ∙ by (index_in rs n s)
  where
    by : (o : Option ℕ) → number_at (replicate count 0) o ≡ 0
    by None = refl
    by (Some k) = none_in count k 0

-- a row that is noted is found, where it is the row of the section, and else what was found before
get_row : (rows : List PieceRow) (i : ℕ) (d : PieceRow) → i < length rows → slice_get rows i ≡ Some (get_or rows i d)
get_row [] i d less = absurd (omega (arith, less))
get_row (r ∷ rows) zero d less = refl
get_row (r ∷ rows) (suc i) d less = get_row rows i d (omega (arith, less))

row_next : (rows : List PieceRow) (i old : ℕ) (row : PieceRow) (rest : Option PieceRow) (b : Bool) → slice_get rows i ≡ Some row → row_numbered rows old ≡ rest
    → row_numbered rows (cond b (i + 1) old) ≡ cond b (Some row) rest
row_next rows i old row rest true at before =
    let some : ((i + 1) == 0) ≡ false = grind (arith, nat_tests) in
    let same : i + 1 - 1 ≡ i = omega arith in
    ap (λ t. cond t None (slice_get rows (i + 1 - 1))) some ∙ ap (λ k. slice_get rows k) same ∙ at
row_next rows i old row rest false at before = before

pub row_noted : (rs : List SectionRange) (rows : List PieceRow) (m i : ℕ) (d : PieceRow) (old new : List ℕ) → m ≡ i + 1 → i < length rows
    → ((n s : ℕ) → row_numbered rows (number_in rs old n s) ≡ row_among (drop m rows) n s)
    → ((n s : ℕ) → number_in rs new n s ≡ cond (same_piece (get_or rows i d).piece (id.Section n s)) (i + 1) (number_in rs old n s))
    → (n s : ℕ) → row_numbered rows (number_in rs new n s) ≡ row_among (drop i rows) n s
row_noted rs rows m i d old new next less before put n s =
    let row : PieceRow = get_or rows i d in
    ap (λ k. row_numbered rows k) (put n s)
    ∙ row_next rows i (number_in rs old n s) row (row_among (drop (i + 1) rows) n s) (same_piece row.piece (id.Section n s)) (get_row rows i d less)
    (before n s ∙ ap (λ k. row_among (drop k rows) n s) next)
    ∙ ap (λ l. row_among l n s) (sym (drop_more rows i d less))

-- each row has an index, since its input has its section
pub row_reached : (rows : List PieceRow) (i : ℕ) (d : PieceRow) (n most : ℕ) → i < length rows → section_count rows n ≤ most → sections_with (get_or rows i d).piece n ≤ most
row_reached rows i d n most less within = let one = row_counted rows i (get_or rows i d) n (get_row rows i d less) in omega (arith, one, within)
