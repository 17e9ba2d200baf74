use Rattle.std.proofs.Common.{get_or, ◌∙◌, arith}
use Rattle.std.proofs.lemmas.List.{get_or_default}
use Rattle.lk_queue.proofs.SlotsTaken.{blank_more, taken_more}
use Rattle.lk_queue.proofs.moves.take_out.Goals as goal

pub loop-number-preserved : goal.loop-number-preserved
loop-number-preserved g c =
    let slots = c.args.slots.now in
    let i = c.loop-number.number-index in
    let store = c.loop-number.store.items in
    let into = c.loop-number.into.items in
    record {
      left = rw c.take_slot-value.ensures.left (blank_more store slots i (get_or slots i 0) c.loop-number-test.true (get_or_default slots i 0 (get_or slots i 0) c.loop-number-test.true) ∙ c.loop-number.invariant.left);
      taken = rw (c.push_some.ensures.items, c.take_slot-value.ensures.left, c.take_slot-value.ensures.value) (taken_more store slots i (get_or slots i 0) into c.requires.once c.loop-number-test.true (get_or_default slots i 0 (get_or slots i 0) c.loop-number-test.true) ∙ c.loop-number.invariant.taken);
      room = omega (arith, c.push_some.ensures.len, c.push_some.ensures.room, c.loop-number.invariant.room, c.loop-number-test.true);
    }
