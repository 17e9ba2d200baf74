use Rattle.std.proofs.Common.{◌≡◌, ℕ, ◌==◌, ◌&&◌, ◌||◌, [], length, drop, get_or}
use Rattle.lk_task_runs.specs.Below.{has}
use Rattle.lk_task_order.proofs.seen.note_reads.Given as goal

abbrev pub invariant-loop-slot : goal.invariant-loop-slot
invariant-loop-slot l = record {
  size : length l.readers.items ≡ length l.fn.readers.items;
  noted : (m t : ℕ) → (has t (get_or l.readers.items m []) || (l.task == t && has m (drop l.slot-index l.reads))) ≡ (has t (get_or l.fn.readers.items m []) || (l.task == t && has m l.reads));
}
