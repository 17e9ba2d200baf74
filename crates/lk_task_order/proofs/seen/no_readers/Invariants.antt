use Rattle.std.proofs.Common.{◌≡◌, [], replicate}
use Rattle.lk_task_order.proofs.seen.no_readers.Given as goal

abbrev pub invariant-loop-number : goal.invariant-loop-number
invariant-loop-number l = l.lists.items ≡ replicate l._number []
