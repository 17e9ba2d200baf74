use Rattle.std.proofs.Common.{◌≡◌, ℕ, ◌+◌, cond, [], length, drop, get_or}
use Rattle.lk_task_runs.specs.Below.{has}
use Rattle.lk_task_order.proofs.seen.note_writes.Given as goal

abbrev pub invariant-loop-slot : goal.invariant-loop-slot
invariant-loop-slot l = record {
  writers_size : length l.writers.items ≡ length l.fn.writers.items;
  readers_size : length l.readers.items ≡ length l.fn.readers.items;
  writers : (m : ℕ) → cond (has m (drop l.slot-index l.writes)) (l.task + 1) (get_or l.writers.items m 0) ≡ cond (has m l.writes) (l.task + 1) (get_or l.fn.writers.items m 0);
  readers : (m : ℕ) → cond (has m (drop l.slot-index l.writes)) [] (get_or l.readers.items m []) ≡ cond (has m l.writes) [] (get_or l.fn.readers.items m []);
}
