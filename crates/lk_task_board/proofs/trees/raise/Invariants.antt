use Rattle.std.proofs.Common.{◌≡◌, ℕ, ◌*◌, ◌/◌, ◌≤◌, ◌<◌, length, drop}
use Rattle.lk_task_board.specs.Trees.{IsSum}
use Rattle.lk_task_board.proofs.trees.raise.Given as goal

abbrev pub invariant-loop-at : goal.invariant-loop-at
invariant-loop-at l = record {
  size : length l.nodes ≡ 2 * l.room;
  inner : l.at < l.room;
  others : (i : ℕ) → 1 ≤ i → i < l.room → (i ≡ l.at → ⊥) → IsSum l.nodes i;
  leaves : drop l.room l.nodes ≡ drop l.room l.fn.nodes;
}

abbrev pub decreases-loop-at : goal.decreases-loop-at
decreases-loop-at l = l.at
