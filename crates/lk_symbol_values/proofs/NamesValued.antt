-- The values of names, one after another.
use Rattle.std.proofs.Common.{◌≡◌, refl, sym, ap, ◌∙◌, arith, ℕ, zero, suc, ◌+◌, ◌<◌, ◌≤◌, ◌^◌, add-one, subst, List, [], ◌∷◌, ◌++◌, append_assoc, length, drop, Option, None, Some, option_map, slice_get, inl, inr}
use Rattle.std.proofs.lemmas.Bool.{cases_lt}
use Rattle.lk_model.specs.declared.layouts.Placement.{Placement}
use Rattle.lk_model.specs.declared.summaries.Contributions.{Contributions}
use Rattle.lk_model.specs.declared.summaries.InputSummary.{InputSummary}
use Rattle.lk_model.specs.declared.summaries.Winner.{Winner}
use Rattle.lk_symtab.specs.NameRows.{NameRow, row_winner, symbols_in}
use Rattle.lk_symbol_values.specs.NameValues.{given_at, given_in, made_by, value_of_row, value_of_winner, values_at, values_from}
use Rattle.lk_symbol_values.specs.declared.name_values.SymbolValue.{SymbolValue}

pub value_reported : (summaries : List InputSummary) (place other : Placement) (n : ℕ) (o : Option NameRow) (cs : Contributions) (w : Winner) (made : ℕ) (v : SymbolValue) (old new : List SymbolValue) → option_map symbols_in o ≡ Some cs → option_map row_winner o ≡ Some w → made ≡ made_by other cs.name w → v ≡ value_of_winner summaries place made n w → new ≡ old ++ v ∷ []
    → new ≡ old ++ values_at summaries place other n o
value_reported summaries place other n None cs w made v old new symbols wins makes is put = absurd (cc)
value_reported summaries place other n (Some row) cs w made v old new symbols wins makes is put =
    let same : row.contributions ≡ cs = cc in
    let winner : row_winner row ≡ w = cc in
    put
    ∙ ap (λ x. old ++ x ∷ []) is
    ∙ ap (λ m. old ++ value_of_winner summaries place m n w ∷ []) makes
    ∙ (λ i. old ++ value_of_winner summaries place (made_by other (sym same i).name (sym winner i)) n (sym winner i) ∷ [])

pub given_reported : (summaries : List InputSummary) (place : Placement) (n : ℕ) (o : Option NameRow) (w : Winner) → option_map row_winner o ≡ Some w → given_in summaries place n w < 2 ^ 64 → given_at summaries place n o < 2 ^ 64
given_reported summaries place n None w wins fits = absurd (cc)
given_reported summaries place n (Some row) w wins fits =
    let same : w ≡ row_winner row = cc in subst (λ v. given_in summaries place n v < 2 ^ 64) same fits

-- what is reported of one name more
pub given_next : (summaries : List InputSummary) (place : Placement) (rows : List NameRow) (n : ℕ) → ((k : ℕ) → k < n → given_at summaries place k (slice_get rows k) < 2 ^ 64) → given_at summaries place n (slice_get rows n) < 2 ^ 64
    → (k : ℕ) → k < n + 1 → given_at summaries place k (slice_get rows k) < 2 ^ 64
given_next summaries place rows n before here k within =
    elim (cases_lt k n) [
      | inl less ↦ before k less
      | inr more ↦ let same : n ≡ k = omega (arith, more, within) in subst (λ m. given_at summaries place m (slice_get rows m) < 2 ^ 64) same here
    ]

none_past : (rows : List NameRow) (n : ℕ) → length rows ≤ n → slice_get rows n ≡ None
none_past [] n past = refl
none_past (row ∷ rows) zero past = absurd (omega arith)
none_past (row ∷ rows) (suc n) past = none_past rows n (omega (arith, past))

-- what is reported of every name
pub given_all : (summaries : List InputSummary) (place : Placement) (rows : List NameRow) (n : ℕ) → length rows ≤ n → ((k : ℕ) → k < n → given_at summaries place k (slice_get rows k) < 2 ^ 64)
    → (k : ℕ) → given_at summaries place k (slice_get rows k) < 2 ^ 64
given_all summaries place rows n whole before k =
    elim (cases_lt k n) [
      | inl less ↦ before k less
      | inr more ↦ let none = none_past rows k (omega (arith, whole, more)) in subst (λ o. given_at summaries place k o < 2 ^ 64) (sym none) (omega arith)
    ]

module _ (summaries : List InputSummary) (place other : Placement) where
  next_row : (m n : ℕ) (rows : List NameRow) → values_from summaries place other m (drop n rows) ≡ values_at summaries place other m (slice_get rows n) ++ values_from summaries place other (m + 1) (drop (suc n) rows)
  next_row m zero [] = refl
  next_row m (suc n) [] = refl
  next_row m zero (row ∷ rows) = refl
  next_row m (suc n) (row ∷ rows) = next_row m n rows

  pub value_next : (values new whole : List SymbolValue) (rows : List NameRow) (n : ℕ) → new ≡ values ++ values_at summaries place other n (slice_get rows n) → values ++ values_from summaries place other n (drop n rows) ≡ whole
      → new ++ values_from summaries place other (n + 1) (drop (n + 1) rows) ≡ whole
  value_next values new whole rows n noted h =
      ap (λ l. l ++ values_from summaries place other (n + 1) (drop (n + 1) rows)) noted
      ∙ append_assoc values (values_at summaries place other n (slice_get rows n)) (values_from summaries place other (n + 1) (drop (n + 1) rows))
      ∙ ap (λ m. values ++ (values_at summaries place other n (slice_get rows n) ++ values_from summaries place other (n + 1) (drop m rows))) (add-one n)
      ∙ ap (λ l. values ++ l) (sym (next_row n n rows))
      ∙ h

  -- the value of the name with a number
  shifted : (k n : ℕ) (o : Option NameRow) → option_map (value_of_row summaries place other (k + 1 + n)) o ≡ option_map (value_of_row summaries place other (k + suc n)) o
  shifted k n o = let e : k + 1 + n ≡ k + suc n = omega arith in ap (λ m. option_map (value_of_row summaries place other m) o) e

  pub value_at : (k n : ℕ) (rows : List NameRow) → slice_get (values_from summaries place other k rows) n ≡ option_map (value_of_row summaries place other (k + n)) (slice_get rows n)
  value_at k n [] = refl
  value_at k zero (row ∷ rows) = let e : k ≡ k + 0 = omega arith in ap (λ m. Some (value_of_row summaries place other m row)) e
  value_at k (suc n) (row ∷ rows) = value_at (k + 1) n rows ∙ shifted k n (slice_get rows n)
