use Rattle.std.proofs.Common.{ap, sym, ◌∙◌, Some, None}
use Rattle.lk_model.specs.Resolving.{resolve}
use Rattle.lk_symtab.specs.NameRows.{number_of}
use Rattle.lk_resolve.proofs.Seen.{seen}
use Rattle.lk_symbol_values.specs.SymbolNumbering.{ValueInputs}
use Rattle.lk_symbol_values.specs.declared.name_values.SymbolValue.{SymbolValue}
use Rattle.lk_symbol_values.proofs.ValuesGiven.{entry_reported}
use Rattle.lk_symbol_values.proofs.values.Values.entry.Goals as goal

pub returns-in-None : goal.returns-in-None
returns-in-None c = λ needs options xs given lawful is.
    let known = c.args.self.now in
    let rows = ap (λ (k : ValueInputs). k.resolution.rows) (sym c.self.view_is) ∙ sym c.names.ensures in
    entry_reported known needs options (resolve options xs) (seen known.resolution known.summaries needs options xs given) lawful
    c.args.name.now is None (ap (λ l. number_of l c.args.name.now) rows ∙ sym c.find.ensures.number ∙ c.in-None.is)

pub returns-in-Some : goal.returns-in-Some
returns-in-Some c = λ needs options xs given lawful is.
    let known = c.args.self.now in
    let rows = ap (λ (k : ValueInputs). k.resolution.rows) (sym c.self.view_is) ∙ sym c.names.ensures in
    ap (λ (v : SymbolValue). v.value) c.name_value.ensures.value
    ∙ entry_reported known needs options (resolve options xs) (seen known.resolution known.summaries needs options xs given) lawful
    c.args.name.now is (Some c.in-Some.number) (ap (λ l. number_of l c.args.name.now) rows ∙ sym c.find.ensures.number ∙ c.in-Some.is)
