use Rattle.std.proofs.Common.{get_or}
use Rattle.lk_task_order.proofs.Listing.{has_at}
use Rattle.lk_task_order.proofs.seen.push_writers.Goals as goal

pub bounds-writers-slot : goal.bounds-writers-slot
bounds-writers-slot c = c.requires (get_or c.args.slots.now c.loop-slot.slot-index 0) (has_at c.args.slots.now c.loop-slot.slot-index c.loop-slot-test.true)
