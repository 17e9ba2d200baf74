use Rattle.std.proofs.Common.{◌≡◌, ◌||◌, ℕ, drop}
use Rattle.lk_resolve.specs.NameSearches.{is_asked_for, names_as}
use Rattle.lk_resolve.specs.Turns.{is_due}
use Rattle.lk_resolve.proofs.name_searches.give_turns.Given as goal

abbrev pub invariant-loop-name : goal.invariant-loop-name
invariant-loop-name l = record {
  given : (i : ℕ) → (is_asked_for l.state l.definers (names_as (drop l.name-index l.names)) i || is_due l.turns i) ≡ (is_asked_for l.state l.definers (names_as l.names) i || is_due l.initial.turns i);
  place : l.turns.place ≡ l.initial.turns.place;
}
