use Rattle.std.proofs.Common.{ap, ◌∙◌}
use Rattle.lk_model.specs.Resolving.{resolve}
use Rattle.lk_resolve.proofs.Seen.{seen}
use Rattle.lk_symbol_values.specs.SymbolNumbering.{ValueInputs}
use Rattle.lk_symbol_values.proofs.ValuesGiven.{name_slot_reported}
use Rattle.lk_symbol_values.proofs.values.Values.name_slot.Goals as goal

pub returns : goal.returns
returns c = λ needs options xs given lawful.
    let known = c.args.self.now in
    c.content_of.ensures
    ∙ name_slot_reported known needs options (resolve options xs) (seen known.resolution known.summaries needs options xs given) lawful
    c.self.inside.addresses (ap (λ (k : ValueInputs). k.place) c.self.view_is) c.name_value.result c.args.name c.name_value.ensures.value c.args.thread
