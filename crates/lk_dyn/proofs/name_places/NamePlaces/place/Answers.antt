use Rattle.std.proofs.Common.{◌∙◌, ap}
use Rattle.std.specs.Prelude.{◌==◌, ℕ, List, position}
use Rattle.lk_dyn.proofs.SymbolsNumbered.{first_is}
use Rattle.lk_dyn.proofs.name_places.NamePlaces.place.Goals as goal

pub returns : goal.returns
returns c =
    c.place_of.ensures
    ∙ c.self.invariant c.args.name
    ∙ first_is c.args.name c.self.inside.names.now
    ∙ ap (λ (names : List ℕ). position (λ n. n == c.args.name) names) c.self.view_is
