use Rattle.std.proofs.Common.{get_or}
use Rattle.lk_task_order.proofs.Listing.{has_at}
use Rattle.lk_task_order.proofs.sweeping.are_reached.Goals as goal

pub need_at-requires : goal.need_at-requires
need_at-requires c = c.requires.before (get_or c.args.before.now c.loop-other.other-index 0) (has_at c.args.before.now c.loop-other.other-index c.loop-other-test.true)
