use Rattle.std.proofs.Common.{◌≡◌, ◌||◌, ◌==◌, ℕ, drop}
use Rattle.std.specs.List.{list_any}
use Rattle.lk_resolve.specs.Turns.{is_due}
use Rattle.lk_resolve.proofs.name_searches.give_places.Given as goal

abbrev pub invariant-loop-place : goal.invariant-loop-place
invariant-loop-place l = record {
  given : (i : ℕ) → (list_any (λ place. i == place) (drop l.place-index l.places) || is_due l.turns i) ≡ (list_any (λ place. i == place) l.places || is_due l.initial.turns i);
  place : l.turns.place ≡ l.initial.turns.place;
}
