-- Counts of sections that are raised one after another.
use Rattle.std.proofs.Common.{◌≡◌, sym, ap, ◌∙◌, arith, ℕ, ◌<◌, ◌≤◌, ◌==◌, cond, max, inl, inr, List, [], ◌∷◌, get_or, set, slice_get, zero, suc, Some, length}
use Rattle.std.proofs.lemmas.Bool.{cases_eq, eq-eqb, ne_eqb}
use Rattle.std.proofs.lemmas.List.{get_or-set_other, get_or-set_same}
use Rattle.lk_model.specs.declared.layouts.PieceRow.{PieceRow}
use Rattle.lk_piece_rows.specs.RowNumbers.{section_count, sections_with}

-- the count of an input that is raised, and of the others
pub raised : (old grew new : List ℕ) (i count n : ℕ) → i < length grew → ((k : ℕ) → get_or grew k 0 ≡ get_or old k 0) → new ≡ set grew i (max (get_or grew i 0) count)
    → get_or new n 0 ≡ max (get_or old n 0) (cond (i == n) count 0)
raised old grew new i count n within same put = elim (cases_eq n i) [
  | inl is ↦
      ap (λ l. get_or l n 0) put
      ∙ ap (λ m. get_or (set grew i (max (get_or grew i 0) count)) m 0) is
      ∙ get_or-set_same grew i (max (get_or grew i 0) count) 0 within
      ∙ ap (λ m. max m count) (same i ∙ ap (λ m. get_or old m 0) (sym is))
      ∙ ap (λ b. max (get_or old n 0) (cond b count 0)) (sym (eq-eqb i n (sym is)))
  | inr other ↦
      ap (λ l. get_or l n 0) put
      ∙ get_or-set_other grew i n (max (get_or grew i 0) count) 0 other
      ∙ same n
      ∙ at_least_none (get_or old n 0)
      ∙ ap (λ b. max (get_or old n 0) (cond b count 0)) (sym (ne_eqb i n (λ e. other (sym e))))
]
  where
    at_least_none : (m : ℕ) → m ≡ max m 0
    at_least_none m = omega arith

-- each row is counted
pub row_counted : (rows : List PieceRow) (i : ℕ) (row : PieceRow) (n : ℕ) → slice_get rows i ≡ Some row → sections_with row.piece n ≤ section_count rows n
row_counted [] i row n at = absurd cc
row_counted (r ∷ rows) zero row n at =
    let is : r ≡ row = cc in
    let e = ap (λ (x : PieceRow). sections_with x.piece n) is in
    omega (arith, e)
row_counted (r ∷ rows) (suc i) row n at =
    let later = row_counted rows i row n at in
    omega (arith, later)
