use Rattle.std.proofs.Common.{◌≡◌, ℕ, ◌+◌, ◌==◌, ◌||◌, drop, get_or}
use Rattle.std.specs.List.{list_any}
use Rattle.lk_task_runs.specs.Below.{has}
use Rattle.lk_task_order.proofs.seen.push_writers.Given as goal

abbrev pub invariant-loop-slot : goal.invariant-loop-slot
invariant-loop-slot l = (t : ℕ) → (has t l.before.items || list_any (λ m. get_or l.writers m 0 == t + 1) (drop l.slot-index l.slots)) ≡ (has t l.fn.before.items || list_any (λ m. get_or l.writers m 0 == t + 1) l.slots)
