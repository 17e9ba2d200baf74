-- The names that have a winner, and their texts, are lk_model's.
use Rattle.std.proofs.Common.{◌≡◌, refl, sym, ap, ◌∙◌, arith, ℕ, zero, suc, ◌+◌, add-zero, zero-add, not, Bool, true, false, cond, List, [], ◌∷◌, ◌++◌, length, map, filter, Option, Some, None, option_map, slice_get}
use Rattle.std.specs.List.{range_with_len}
use Rattle.std.proofs.lemmas.Option.{slice_get-map}
use Rattle.lk_report.specs.declared.causes.OptionRecord.{OptionRecord}
use Rattle.lk_model.specs.SymbolTable.{names_with_winner, symbol_texts}
use Rattle.lk_model.specs.SymbolValues.{name_of, winner_of_name}
use Rattle.lk_model.specs.Texts.{table_of}
use Rattle.lk_model.specs.Views.{Resolved}
use Rattle.lk_model.specs.Winners.{is_nothing}
use Rattle.lk_model.specs.declared.layouts.Needs.{Needs}
use Rattle.lk_model.specs.declared.summaries.Contributions.{Contributions}
use Rattle.lk_model.specs.declared.summaries.InputSummary.{InputSummary}
use Rattle.lk_model.specs.declared.summaries.Winner.{Winner}
use Rattle.lk_model.specs.declared.summaries.Winner.TheVariants as winner
use Rattle.lk_symtab.specs.NameRows.{NameRow, all_symbols, row_winner, symbols_in}
use Rattle.lk_resolve.specs.Settling.{ResolutionValue}
use Rattle.lk_resolve.proofs.Seen.{Sees}
use Rattle.lk_dyn_sizes.specs.DynamicRows.{numbers_where, test_at}
use Rattle.lk_dyn_sizes.specs.DynamicStrings.{number_texts, row_texts, texts_at}
use Rattle.lk_dyn_tables.specs.WinnerNames.{has_winner}

-- a row of the table, by its winner
pub winner_reported : (n : ℕ) (o : Option NameRow) (w : Winner) → option_map row_winner o ≡ Some w → not (is_nothing w) ≡ test_at has_winner n o
winner_reported n None w e = absurd (cc)
winner_reported n (Some row) w e =
    let wins : row_winner row ≡ w = cc in
    ap (λ w. not (is_nothing w)) (sym wins)

kept : {A : Type 0} (b : Bool) (x : A) (rest : List A) → cond b (x ∷ rest) rest ≡ cond b (x ∷ []) [] ++ rest
kept true x rest = refl
kept false x rest = refl

-- their numbers
winners_are : (r : Resolved) (n : ℕ) (rows : List NameRow) → ((k : ℕ) → slice_get r.winners (n + k) ≡ option_map row_winner (slice_get rows k))
    → filter (λ n. not (is_nothing (winner_of_name r n))) (range_with_len n (length (all_symbols rows))) ≡ numbers_where has_winner n rows
winners_are r n [] same = refl
winners_are r n (row ∷ rows) same =
    let here : winner_of_name r n ≡ row_winner row = ap (λ (o : Option Winner). elim o [ None ↦ winner.Nothing | Some w ↦ w ]) (ap (slice_get r.winners) (sym (add-zero n)) ∙ same zero) in
    let later : (k : ℕ) → slice_get r.winners (n + 1 + k) ≡ option_map row_winner (slice_get rows k) = λ k. ap (slice_get r.winners) (let e : n + 1 + k ≡ n + suc k = omega arith in e) ∙ same (suc k) in
    let rest = winners_are r (n + 1) rows later in
    kept (not (is_nothing (winner_of_name r n))) n (filter (λ n. not (is_nothing (winner_of_name r n))) (range_with_len (n + 1) (length (all_symbols rows))))
    ∙ (λ i. cond (not (is_nothing (here i))) (n ∷ []) [] ++ rest i)

-- their texts
text_here : (r : Resolved) (all : List NameRow) (n : ℕ) (row : NameRow) (b : Bool) (rest : List ℕ) → slice_get all n ≡ Some row → row.contributions.name ≡ name_of r n → texts_at all rest ≡ map (name_of r) rest
    → texts_at all (cond b (n ∷ []) [] ++ rest) ≡ map (name_of r) (cond b (n ∷ []) [] ++ rest)
text_here r all n row true rest at name h = λ i. (ap row_texts at ∙ ap (λ t. t ∷ []) name) i ++ h i
text_here r all n row false rest at name h = h

texts_are : (r : Resolved) (all : List NameRow) (n : ℕ) (rows : List NameRow) → ((k : ℕ) → slice_get all (n + k) ≡ slice_get rows k) → ((k : ℕ) → slice_get r.names (n + k) ≡ option_map symbols_in (slice_get rows k))
    → texts_at all (numbers_where has_winner n rows) ≡ map (name_of r) (numbers_where has_winner n rows)
texts_are r all n [] same named = refl
texts_are r all n (row ∷ rows) same named =
    let here : slice_get all n ≡ Some row = ap (slice_get all) (sym (add-zero n)) ∙ same zero in
    let name : row.contributions.name ≡ name_of r n = sym (ap (λ (o : Option Contributions). elim o [ None ↦ [] | Some c ↦ c.name ]) (ap (slice_get r.names) (sym (add-zero n)) ∙ named zero)) in
    let next : (k : ℕ) → n + 1 + k ≡ n + suc k = λ k. omega arith in
    text_here r all n row (has_winner n row) (numbers_where has_winner (n + 1) rows) here name
    (texts_are r all (n + 1) rows (λ k. ap (slice_get all) (next k) ∙ same (suc k)) (λ k. ap (slice_get r.names) (next k) ∙ named (suc k)))

module _ (resolution : ResolutionValue) (summaries : List InputSummary) (needs : Needs) (options : OptionRecord) (r : Resolved) (s : Sees resolution summaries needs options r) where
  pub winners_seen : names_with_winner r ≡ numbers_where has_winner 0 resolution.rows
  winners_seen =
      (λ i. filter (λ n. not (is_nothing (winner_of_name r n))) (range_with_len 0 (length (s.names i))))
      ∙ winners_are r 0 resolution.rows (λ k. ap (slice_get r.winners) (zero-add k) ∙ ap (λ l. slice_get l k) s.winners ∙ slice_get-map row_winner resolution.rows k)

  pub texts_seen : (numbers : List ℕ) → numbers ≡ names_with_winner r → table_of (texts_at resolution.rows numbers) ≡ symbol_texts r
  unfolding symbol_texts
  texts_seen numbers chosen =
      ap (λ ns. table_of (texts_at resolution.rows ns)) (chosen ∙ winners_seen)
      ∙ ap table_of (texts_are r resolution.rows 0 resolution.rows (λ k. ap (slice_get resolution.rows) (zero-add k)) (λ k. ap (slice_get r.names) (zero-add k) ∙ ap (λ l. slice_get l k) s.names ∙ slice_get-map symbols_in resolution.rows k))
      ∙ ap (λ ns. table_of (map (name_of r) ns)) (sym winners_seen)
