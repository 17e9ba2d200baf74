use Rattle.lk_symbol_values.proofs.Places as places
use Rattle.lk_symbol_values.proofs.laws.places_are_exact.Goals as goal

pub returns-clause-reported : goal.returns-clause-reported
returns-clause-reported c = places.places_reported

pub returns-clause-exact : goal.returns-clause-exact
returns-clause-exact c = places.places_exact
