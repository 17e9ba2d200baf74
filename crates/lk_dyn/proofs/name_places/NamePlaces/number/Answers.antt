use Rattle.std.proofs.Common.{◌∙◌, ap, length}
use Rattle.std.specs.Prelude.{ℕ, List}
use Rattle.lk_model.specs.DynamicNames.{dynsym_number}
use Rattle.lk_dyn.specs.NamePlaces.{number_at}
use Rattle.lk_dyn.proofs.SymbolsNumbered.{number_is}
use Rattle.lk_dyn.proofs.name_places.NamePlaces.number.Goals as goal

pub returns-clause-number : goal.returns-clause-number
returns-clause-number c =
    c.number_at.ensures.number
    ∙ ap (number_at (length c.self.inside.names.now)) (c.place_of.ensures ∙ c.self.invariant c.args.name)
    ∙ number_is c.args.name c.self.inside.names.now
    ∙ ap (λ (names : List ℕ). dynsym_number names c.args.name) c.self.view_is
