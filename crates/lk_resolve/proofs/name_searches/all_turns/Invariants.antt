use Rattle.std.proofs.Common.{◌≡◌, ◌<◌, ℕ, true}
use Rattle.lk_resolve.specs.Turns.{is_due}
use Rattle.lk_resolve.proofs.name_searches.all_turns.Given as goal

abbrev pub invariant-loop-place : goal.invariant-loop-place
invariant-loop-place l = record {
  due : (i : ℕ) → i < l.place → is_due l.turns i ≡ true;
  place : l.turns.place ≡ 0;
}
