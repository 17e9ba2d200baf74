-- What code has of a link, beside what resolution finds.
use Rattle.std.proofs.Common.{◌≡◌, sym, ap, List, map}
use Rattle.lk_report.specs.declared.causes.OptionRecord.{OptionRecord}
use Rattle.lk_model.specs.declared.layouts.Needs.{Needs}
use Rattle.lk_model.specs.declared.summaries.InputSummary.{InputSummary}
use Rattle.lk_model.specs.Resolving.{resolve}
use Rattle.lk_model.specs.Views.{Input, Resolved}
use Rattle.lk_model.specs.InputNames.{input_summary}
use Rattle.lk_resolve.specs.Given.{IsGiven}
use Rattle.lk_resolve.specs.Settling.{ResolutionValue}
use Rattle.lk_symtab.specs.NameRows.{all_symbols, row_visibility, row_winner}

-- what is found is what code has, as far as the tables ask for it
pub record Sees (resolution : ResolutionValue) (summaries : List InputSummary) (needs : Needs) (options : OptionRecord) (r : Resolved) : Type 0 where
  pub chosen : r.options ≡ record options { dynamic = resolution.dynamic }
  pub summarized : map input_summary r.inputs ≡ summaries
  pub added : r.added ≡ resolution.added
  pub names : r.names ≡ all_symbols resolution.rows
  pub winners : r.winners ≡ map row_winner resolution.rows
  pub visibilities : r.visibilities ≡ map row_visibility resolution.rows
  pub needed : r.needs ≡ needs

pub seen : (resolution : ResolutionValue) (summaries : List InputSummary) (needs : Needs) (options : OptionRecord) (xs : List Input) → IsGiven resolution summaries needs options xs → Sees resolution summaries needs options (resolve options xs)
unfolding resolve
seen resolution summaries needs options xs given = record {
  chosen = ap (λ d. record options { dynamic = d }) (sym given.found.dynamic);
  summarized = given.summarized;
  added = sym given.found.added;
  names = sym given.found.names;
  winners = sym given.found.winners;
  visibilities = sym given.found.visibilities;
  needed = given.needed;
}
