use Rattle.std.proofs.Common.{◌≡◌, ◌+◌, ◌-◌, ◌≤◌, ◌++◌, length, drop, map, Some, vec_len}
use Rattle.std.specs.Vec.{vec_capacity}
use Rattle.lk_queue.proofs.moves.all_present.Given as goal

abbrev pub invariant-loop-number : goal.invariant-loop-number
invariant-loop-number g l =
    record {
      moved : map Some l.into.items ++ drop l.number l.store.items ≡ l.fn.store.items;
      size : length l.store.items ≡ length l.fn.store.items;
      room : vec_len l.into + (length l.fn.store.items - l.number) ≤ vec_capacity l.into;
    }
