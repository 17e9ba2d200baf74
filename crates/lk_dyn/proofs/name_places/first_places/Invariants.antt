use Rattle.std.proofs.Common.{◌≡◌, ℕ, drop}
use Rattle.lk_dyn.specs.NamePlaces.{place_from, place_of}
use Rattle.lk_dyn.proofs.name_places.first_places.Given as goal

abbrev pub invariant-loop-at : goal.invariant-loop-at
invariant-loop-at l = (n : ℕ) → place_of l.places.entries n ≡ place_from n l.at (drop l.at l.names)
