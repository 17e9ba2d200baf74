-- The pieces of names are those of lk_model, whichever list has the copied names.
use Rattle.std.specs.Prelude.{◌≡◌, refl, ℕ, zero, suc, ◌+◌, ◌<◌, cond, nat_eq, List, [], ◌∷◌, ◌++◌, drop, filter_map, fold, length, map, zip, Option, Some, None, option_map, slice_get}
use Rattle.std.specs.List.{cons_option, enumerate_from}
use Rattle.std.specs.Cmp.{nat_eq_equiv}
use Rattle.std.proofs.Common.{sym, ap, ◌∙◌, arith}
use Rattle.std.proofs.lemmas.List.Sums.{fold-append}
use Rattle.lk_model.specs.declared.summaries.Contributions.{Contributions}
use Rattle.lk_model.specs.declared.summaries.Winner.{Winner}
use Rattle.lk_model.specs.declared.summaries.Winner.TheVariants as winner
use Rattle.lk_model.specs.KeptPieces.{copy_piece, name_piece, name_pieces}
use Rattle.lk_model.specs.Numbered.{distinct, is_number_in}
use Rattle.lk_model.specs.Views.{KeptPiece}
use Rattle.lk_model.specs.Winners.{symbol_among}
use Rattle.lk_symtab.specs.NameRows.{NameRow, all_symbols, row_winner}
use Rattle.lk_resolve.proofs.ListSets.{any-distinct}
use Rattle.lk_layout.specs.Grouping.{Groups, with_piece}
use Rattle.lk_layout.specs.KeptIn.{names_in, piece_at, piece_in}
use Rattle.lk_layout.proofs.ListSteps.{at_entry}

-- a name's piece, where two lists have the same numbers
piece_alike : (xs ys : List ℕ) (n : ℕ) (cs : Contributions) (w : Winner) → is_number_in xs n ≡ is_number_in ys n → name_piece xs n cs w ≡ name_piece ys n cs w
piece_alike xs ys n cs (winner.Common size align) same = refl
piece_alike xs ys n cs (winner.Import input symbol) same = ap (λ b. cond b (option_map (copy_piece n) (symbol_among cs.list input symbol)) None) same
piece_alike xs ys n cs winner.Nothing same = refl
piece_alike xs ys n cs (winner.Strong input symbol) same = refl
piece_alike xs ys n cs (winner.Weak input symbol) same = refl
piece_alike xs ys n cs winner.Made same = refl

names_alike : (xs ys : List ℕ) → ((n : ℕ) → is_number_in xs n ≡ is_number_in ys n) → (n : ℕ) (rows : List NameRow) → names_in xs n rows ≡ names_in ys n rows
names_alike xs ys same n [] = refl
names_alike xs ys same n (row ∷ rows) =
    (λ i. cons_option (piece_alike xs ys n row.contributions (row_winner row) (same n) i) (names_alike xs ys same (n + 1) rows i))

-- a name is copied once or more
pub names_once : (numbers : List ℕ) (rows : List NameRow) → names_in (distinct nat_eq numbers) 0 rows ≡ names_in numbers 0 rows
names_once numbers rows = names_alike (distinct nat_eq numbers) numbers (λ n. any-distinct nat_eq nat_eq_equiv n numbers) 0 rows

names_from : (copies : List ℕ) (n : ℕ) (rows : List NameRow) → names_in copies n rows ≡ filter_map (λ (x : ℕ × (Contributions × Winner)). name_piece copies x.0 x.1.0 x.1.1) (enumerate_from n (zip (all_symbols rows) (map row_winner rows)))
names_from copies n [] = refl
names_from copies n (row ∷ rows) = ap (cons_option (name_piece copies n row.contributions (row_winner row))) (names_from copies (n + 1) rows)

-- they are lk_model's common blocks and copies
pub names_are : (copies : List ℕ) (rows : List NameRow) → names_in copies 0 rows ≡ name_pieces copies (all_symbols rows) (map row_winner rows)
names_are copies rows = names_from copies 0 rows

-- one more name
not_past : (rows : List NameRow) (i : ℕ) → i < length rows → slice_get rows i ≡ None → ⊥
not_past [] i within none = omega arith
not_past (row ∷ rows) zero within none = cc
not_past (row ∷ rows) (suc i) within none = not_past rows i (omega arith) none

joined : (o : Option KeptPiece) (ks : List KeptPiece) → cons_option o [] ++ ks ≡ cons_option o ks
joined None ks = refl
joined (Some k) ks = refl

name_next : (copies : List ℕ) (rows : List NameRow) (n : ℕ) → n < length rows → names_in copies n (drop n rows) ≡ piece_at copies rows n ++ names_in copies (n + 1) (drop (n + 1) rows)
name_next copies rows n within = go (slice_get rows n) refl
  where
    go : (o : Option NameRow) → slice_get rows n ≡ o → names_in copies n (drop n rows) ≡ piece_in copies n o ++ names_in copies (n + 1) (drop (n + 1) rows)
    go None e = absurd (not_past rows n within e)
    go (Some row) e =
        ap (names_in copies n) (at_entry rows n row e)
        ∙ sym (joined (name_piece copies n row.contributions (row_winner row)) (names_in copies (n + 1) (drop (n + 1) rows)))

pub name_step : (copies : List ℕ) (rows : List NameRow) (n : ℕ) (g new : Groups) → n < length rows → new ≡ fold with_piece g (piece_at copies rows n) → fold with_piece new (names_in copies (n + 1) (drop (n + 1) rows)) ≡ fold with_piece g (names_in copies n (drop n rows))
name_step copies rows n g new within kept =
    ap (λ (h : Groups). fold with_piece h (names_in copies (n + 1) (drop (n + 1) rows))) kept
    ∙ sym (fold-append with_piece g (piece_at copies rows n) (names_in copies (n + 1) (drop (n + 1) rows)))
    ∙ ap (fold with_piece g) (sym (name_next copies rows n within))
