use Rattle.std.proofs.Common.{◌≡◌, ◌+◌, ◌-◌, ◌≤◌, ◌++◌, length, drop, vec_len}
use Rattle.std.specs.Vec.{vec_capacity}
use Rattle.lk_task_runs.specs.Runs as runs
use Rattle.lk_queue.proofs.moves.take_out.Given as goal

abbrev pub invariant-loop-number : goal.invariant-loop-number
invariant-loop-number g l =
    record {
      left : runs.blank (drop l.number-index l.slots) l.store.items ≡ runs.blank l.slots l.fn.store.items;
      taken : l.into.items ++ runs.values l.store.items (drop l.number-index l.slots) ≡ l.fn.into.items ++ runs.values l.fn.store.items l.slots;
      room : vec_len l.into + (length l.slots - l.number-index) ≤ vec_capacity l.into;
    }
