use Rattle.std.proofs.Common.{ap, slice_get, subst, ◌<◌, ◌^◌, ◌∙◌}
use Rattle.lk_symbol_values.specs.NameValues.{given_at}
use Rattle.lk_symbol_values.specs.SymbolNumbering.{ValueInputs, value_at, value_or_nothing}
use Rattle.lk_symbol_values.proofs.ValuesFound.{value_found}
use Rattle.lk_symbol_values.proofs.values.Values.name_value.Goals as goal

pub returns-clause-value : goal.returns-clause-value
returns-clause-value c =
    c.value_or_nothing.ensures
    ∙ ap (λ l. value_or_nothing (slice_get l c.args.number)) c.as_slice.ensures
    ∙ value_found c.self.inside.symbols c.self.inside.addresses c.self.inside.names c.self.inside.resolution.now.rows c.args.number c.self.invariant.values_are
    ∙ ap (λ (k : ValueInputs). value_at k c.args.number) c.self.view_is

pub returns-clause-fits : goal.returns-clause-fits
returns-clause-fits c =
    subst (λ (k : ValueInputs). given_at k.summaries k.place c.args.number (slice_get k.resolution.rows c.args.number) < 2 ^ 64) c.self.view_is (c.self.invariant.given_fit c.args.number)
