use Rattle.std.proofs.Common.{drop, arith}
use Rattle.lk_queue.proofs.SlotsPresent.{put_none}
use Rattle.lk_queue.proofs.moves.put_back.Goals as goal

pub returns-in-None : goal.returns-in-None
returns-in-None g c = put_none (drop c.loop-number.number-index c.args.slots.now) c.loop-number.left.items c.loop-number.store.items _ (omega (arith, c.in-None.ensures.cases.0, c.loop-number.left.ok.0)) c.loop-number.invariant
