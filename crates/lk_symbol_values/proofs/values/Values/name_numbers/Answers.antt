use Rattle.std.proofs.Common.{ap, ◌∙◌}
use Rattle.lk_model.specs.Resolving.{resolve}
use Rattle.lk_resolve.proofs.Seen.{seen}
use Rattle.lk_symbol_values.specs.SymbolNumbering.{ValueInputs}
use Rattle.lk_symbol_values.specs.declared.values.SymbolNumbers.{SymbolNumbers}
use Rattle.lk_symbol_values.proofs.ValuesExact.{value_exact}
use Rattle.lk_symbol_values.proofs.ValuesGiven.{name_numbers_reported}
use Rattle.lk_symbol_values.proofs.values.Values.name_numbers.Goals as goal

pub returns-clause-symbol_numbers : goal.returns-clause-symbol_numbers
returns-clause-symbol_numbers c = λ needs options xs given lawful input weak.
    let known = c.args.self.now in
    c.symbol_numbers_by.ensures
    ∙ name_numbers_reported known needs options (resolve options xs) (seen known.resolution known.summaries needs options xs given) lawful
    c.self.inside.addresses (ap (λ (k : ValueInputs). k.place) c.self.view_is) c.name_value-value.result c.args.name c.name_value-value.ensures.value input weak

pub returns-clause-exact : goal.returns-clause-exact
returns-clause-exact c = λ needs options xs given lawful memory.
    let known = c.args.self.now in
    ap (λ (w : SymbolNumbers). w.value) c.symbol_numbers_by.ensures
    ∙ value_exact known needs options xs (seen known.resolution known.summaries needs options xs given) lawful memory c.name_value-value.result c.args.name c.name_value-value.ensures.value c.name_value-value.ensures.fits
