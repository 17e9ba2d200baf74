-- The rows that pass a test, one after another.
use Rattle.std.proofs.Common.{◌≡◌, refl, sym, ap, ◌∙◌, arith, ℕ, zero, suc, ◌+◌, ◌<◌, add-one, Bool, List, [], ◌∷◌, ◌++◌, append_assoc, length, drop, Option, None, Some, option_map, slice_get}
use Rattle.lk_model.specs.declared.summaries.Contributions.{Contributions}
use Rattle.lk_model.specs.declared.summaries.Winner.{Winner}
use Rattle.lk_model.specs.Numbered.{is_number_in}
use Rattle.lk_symtab.specs.NameRows.{NameRow, row_visibility, row_winner, symbols_in}
use Rattle.lk_dyn_sizes.specs.DynamicRows.{chosen_at, is_copied_row, is_dynamic_as, is_dynamic_row, numbers_where, test_at}

-- a row of the table, by its symbols, winner and visibility
pub dynamic_reported : (needed : List ℕ) (all : Bool) (n : ℕ) (o : Option NameRow) (cs : Contributions) (w : Winner) (v : ℕ) → option_map symbols_in o ≡ Some cs → option_map row_winner o ≡ Some w → option_map row_visibility o ≡ Some v
    → is_dynamic_as needed all n cs w v ≡ test_at (is_dynamic_row needed all) n o
dynamic_reported needed all n None cs w v symbols wins seen = absurd (cc)
dynamic_reported needed all n (Some row) cs w v symbols wins seen =
    let same : row.contributions ≡ cs = cc in
    let winner : row_winner row ≡ w = cc in
    let visibility : row_visibility row ≡ v = cc in
    λ i. is_dynamic_as needed all n (sym same i) (sym winner i) (sym visibility i)

pub copied_reported : (copied : List ℕ) (m n : ℕ) (rows : List NameRow) → n < length rows → is_number_in copied m ≡ test_at (is_copied_row copied) m (slice_get rows n)
copied_reported copied m n [] h = absurd (omega arith)
copied_reported copied m zero (row ∷ rows) h = refl
copied_reported copied m (suc n) (row ∷ rows) h = copied_reported copied m n rows (omega arith)

-- the next row
next_row : (test : ℕ → NameRow → Bool) (m n : ℕ) (rows : List NameRow) → numbers_where test m (drop n rows) ≡ chosen_at test m (slice_get rows n) ++ numbers_where test (m + 1) (drop (suc n) rows)
next_row test m zero [] = refl
next_row test m (suc n) [] = refl
next_row test m zero (row ∷ rows) = refl
next_row test m (suc n) (row ∷ rows) = next_row test m n rows

pub chosen_next : (test : ℕ → NameRow → Bool) (numbers new whole : List ℕ) (rows : List NameRow) (n : ℕ) → new ≡ numbers ++ chosen_at test n (slice_get rows n) → numbers ++ numbers_where test n (drop n rows) ≡ whole
    → new ++ numbers_where test (n + 1) (drop (n + 1) rows) ≡ whole
chosen_next test numbers new whole rows n noted h =
    ap (λ l. l ++ numbers_where test (n + 1) (drop (n + 1) rows)) noted
    ∙ append_assoc numbers (chosen_at test n (slice_get rows n)) (numbers_where test (n + 1) (drop (n + 1) rows))
    ∙ ap (λ m. numbers ++ (chosen_at test n (slice_get rows n) ++ numbers_where test (n + 1) (drop m rows))) (add-one n)
    ∙ ap (λ l. numbers ++ l) (sym (next_row test n n rows))
    ∙ h
