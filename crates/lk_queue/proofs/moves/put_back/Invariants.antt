use Rattle.std.proofs.Common.{◌≡◌, drop}
use Rattle.std.specs.Prelude.{reverse}
use Rattle.lk_task_runs.specs.Runs as runs
use Rattle.lk_queue.proofs.moves.put_back.Given as goal

abbrev pub invariant-loop-number : goal.invariant-loop-number
invariant-loop-number g l = runs.put (drop l.number-index l.slots) (reverse l.left.items) l.store.items ≡ runs.put l.slots l.fn.values l.fn.store.items
