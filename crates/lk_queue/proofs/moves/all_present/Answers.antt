use Rattle.std.proofs.Common.{◌<◌, length, arith, rules}
use Rattle.lk_queue.proofs.SlotsPresent.{present_more}
use Rattle.lk_queue.proofs.moves.all_present.Goals as goal

pub loop-number-preserved : goal.loop-number-preserved
loop-number-preserved g c =
    let inside : c.loop-number.number < length c.loop-number.store.items = omega (arith, c.loop-number-test.true, c.len-number-end.ensures, c.args.store.ok.0, c.loop-number.invariant.size) in
    record {
      moved = rw (c.push_some.ensures.items, c.take_slot-value.ensures.value, c.take_slot-value.ensures.left) (present_more c.loop-number.into.items c.loop-number.store.items c.args.store.items c.loop-number.number c.requires.there inside c.loop-number.invariant.moved);
      size = search rules;
      room = omega (arith, c.push_some.ensures.len, c.push_some.ensures.room, c.loop-number.invariant.room, c.loop-number.invariant.size, inside);
    }
