use Rattle.std.proofs.Common.{get_or, arith}
use Rattle.lk_task_order.proofs.Listing.{has_at}
use Rattle.lk_task_order.proofs.seen.note_writes.Goals as goal

pub index_mut-requires : goal.index_mut-requires
index_mut-requires c =
    omega (arith, c.requires.writers (get_or c.args.writes.now c.loop-slot.slot-index 0) (has_at c.args.writes.now c.loop-slot.slot-index c.loop-slot-test.true), c.loop-slot.invariant.writers_size, c.loop-slot.writers.ok.0)

pub index_mut-requires-in-loop-slot : goal.index_mut-requires-in-loop-slot
index_mut-requires-in-loop-slot c =
    omega (arith, c.requires.readers (get_or c.args.writes.now c.loop-slot.slot-index 0) (has_at c.args.writes.now c.loop-slot.slot-index c.loop-slot-test.true), c.loop-slot.invariant.readers_size, c.loop-slot.readers.ok.0)
