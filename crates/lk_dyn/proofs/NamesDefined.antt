-- The names that an object defines are lk_model's.
use Rattle.std.proofs.Common.{◌≡◌, refl, sym, ap, ◌∙◌, ℕ, List, map, Option, Some, None, option_map, option_and_then, slice_get}
use Rattle.std.proofs.lemmas.Option.{slice_get-map}
use Rattle.lk_report.specs.declared.causes.OptionRecord.{OptionRecord}
use Rattle.lk_model.specs.DynamicSizes.{name_in_object}
use Rattle.lk_model.specs.Finding.{number_among}
use Rattle.lk_model.specs.Views.{Resolved}
use Rattle.lk_model.specs.declared.layouts.Needs.{Needs}
use Rattle.lk_model.specs.declared.summaries.InputSummary.{InputSummary}
use Rattle.lk_model.specs.declared.summaries.Winner.{Winner}
use Rattle.lk_symtab.specs.NameRows.{NameRow, number_of, row_winner}
use Rattle.lk_resolve.specs.Settling.{ResolutionValue}
use Rattle.lk_resolve.proofs.Seen.{Sees}
use Rattle.lk_dyn.specs.DefinedNames.{defined_at, defined_by, defined_in}

-- a row of the table, by its winner
pub defined_reported : (n : ℕ) (o : Option NameRow) (w : Winner) → option_map row_winner o ≡ Some w → defined_by n w ≡ defined_at n o
defined_reported n None w e = absurd (cc)
defined_reported n (Some row) w e =
    let wins : row_winner row ≡ w = cc in
    ap (defined_by n) (sym wins)

-- by the winner of a number
by_row : (n : ℕ) (o : Option NameRow) → defined_at n o ≡ option_and_then (defined_by n) (option_map row_winner o)
by_row n None = refl
by_row n (Some row) = refl

by_number : (rows : List NameRow) (o : Option ℕ)
    → option_and_then (λ n. defined_at n (slice_get rows n)) o ≡ option_and_then (λ n. option_and_then (defined_by n) (slice_get (map row_winner rows) n)) o
by_number rows None = refl
by_number rows (Some n) = by_row n (slice_get rows n) ∙ ap (option_and_then (defined_by n)) (sym (slice_get-map row_winner rows n))

pub defined_seen : (resolution : ResolutionValue) (summaries : List InputSummary) (needs : Needs) (options : OptionRecord) (r : Resolved) → Sees resolution summaries needs options r
    → (name : List ℕ) → defined_in resolution.rows name ≡ name_in_object r name
defined_seen resolution summaries needs options r s name =
    by_number resolution.rows (number_of resolution.rows name)
    ∙ (λ i. option_and_then (λ n. option_and_then (defined_by n) (slice_get (sym s.winners i) n)) (number_among (sym s.names i) name))
