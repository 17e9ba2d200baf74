use Rattle.std.proofs.Common.{ap, ◌∙◌}
use Rattle.lk_symbol_values.specs.SymbolNumbering.{ValueInputs, numbers_by}
use Rattle.lk_symbol_values.proofs.NumbersReported.{numbers_reported}
use Rattle.lk_symbol_values.proofs.values.Values.numbers.Goals as goal

pub returns-clause-reported : goal.returns-clause-reported
returns-clause-reported c = λ r ref there symbol_numbers.
    numbers_reported r c.args.self.now.place ref c.args.relocation.now c.args.symbol_numbers.now c.numbers_by.result
    (c.numbers_by.ensures ∙ ap (λ (k : ValueInputs). numbers_by k.place c.args.relocation.now c.args.symbol_numbers.now) c.self.view_is) there symbol_numbers
