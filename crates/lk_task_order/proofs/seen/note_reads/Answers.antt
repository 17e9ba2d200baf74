use Rattle.std.proofs.Common.{get_or}
use Rattle.lk_task_order.proofs.Listing.{has_at}
use Rattle.lk_task_order.proofs.seen.note_reads.Goals as goal

pub push_reader-requires : goal.push_reader-requires
push_reader-requires c = rw c.loop-slot.invariant.size (c.requires (get_or c.args.reads.now c.loop-slot.slot-index 0) (has_at c.args.reads.now c.loop-slot.slot-index c.loop-slot-test.true))
