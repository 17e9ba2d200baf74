use Rattle.std.proofs.Common.{◌≡◌, ℕ, ◌||◌, [], drop, get_or}
use Rattle.std.specs.List.{list_any}
use Rattle.lk_task_runs.specs.Below.{has}
use Rattle.lk_task_order.proofs.seen.push_readers.Given as goal

abbrev pub invariant-loop-slot : goal.invariant-loop-slot
invariant-loop-slot l = (t : ℕ) → (has t l.before.items || list_any (λ m. has t (get_or l.readers m [])) (drop l.slot-index l.slots)) ≡ (has t l.fn.before.items || list_any (λ m. has t (get_or l.readers m [])) l.slots)
