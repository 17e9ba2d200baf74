-- The value of a name by its number.
use Rattle.std.proofs.Common.{◌≡◌, ap, ◌∙◌, ℕ, ◌+◌, arith, List, Option, None, Some, option_map, slice_get}
use Rattle.lk_model.specs.declared.layouts.Placement.{Placement}
use Rattle.lk_model.specs.declared.summaries.InputSummary.{InputSummary}
use Rattle.lk_symtab.specs.NameRows.{NameRow}
use Rattle.lk_symbol_values.specs.NameValues.{value_of_row, values_from}
use Rattle.lk_symbol_values.specs.SymbolNumbering.{value_or_nothing, value_with}
use Rattle.lk_symbol_values.specs.declared.name_values.SymbolValue.{SymbolValue}
use Rattle.lk_symbol_values.proofs.NamesValued.{value_at}

by_row : (summaries : List InputSummary) (place : Placement) (n : ℕ) (o : Option NameRow) (got : Option SymbolValue) → got ≡ option_map (value_of_row summaries place place n) o → value_or_nothing got ≡ value_with summaries place n o
by_row summaries place n None got is = ap (value_or_nothing) is
by_row summaries place n (Some row) got is = ap (value_or_nothing) is

pub value_found : (summaries : List InputSummary) (place : Placement) (values : List SymbolValue) (rows : List NameRow) (n : ℕ) → values ≡ values_from summaries place place 0 rows → value_or_nothing (slice_get values n) ≡ value_with summaries place n (slice_get rows n)
value_found summaries place values rows n is =
    let same : 0 + n ≡ n = omega arith in
    by_row summaries place n (slice_get rows n) (slice_get values n)
    (ap (λ l. slice_get l n) is ∙ value_at summaries place place 0 n rows ∙ ap (λ m. option_map (value_of_row summaries place place m) (slice_get rows n)) same)
