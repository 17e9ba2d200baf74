use Rattle.std.specs.Prelude.{◌≡◌, ◌+◌, ◌<◌, false, length, is_none, get_or}
use Rattle.std.specs.BinaryHeap.{heap_items}
use Rattle.std.proofs.Common.{rules, sym, ◌∙◌, subst}
use Rattle.lk_gotplt.proofs.SlotsFree.{free_below, key_there, slot_freed, taken_at}
use Rattle.lk_gotplt.proofs.slots.Slots.release_got.Goals as goal

pub put_free-requires-clause-room : goal.put_free-requires-clause-room
put_free-requires-clause-room c =
    let taken : is_none (get_or c.self.inside.got.items c.args.slot c.index.result.now) ≡ false =
    subst (λ s. is_none s ≡ false) c.index.ensures (key_there c.index.result.now (sym c.is_some.ensures ∙ c.if-is_some.true)) in
    let within : c.args.slot < length c.self.inside.got.items = search rules in
    let fewer = free_below (heap_items c.self.inside.free) c.self.inside.got.items c.args.slot c.index.result.now within taken c.self.invariant.0 in
    let fits = c.self.invariant.2.queue_fits in
    search rules

pub invariant_of-self : goal.invariant_of-self
invariant_of-self c =
    let taken : is_none (get_or c.self.inside.got.items c.args.slot c.index.result.now) ≡ false =
    subst (λ s. is_none s ≡ false) c.index.ensures (key_there c.index.result.now (sym c.is_some.ensures ∙ c.if-is_some.true)) in
    let within : c.args.slot < length c.self.inside.got.items = search rules in
    let longer : length (heap_items c.put_free.new.free) ≡ length (heap_items c.self.inside.free) + 1 = search rules in (
      slot_freed
          (heap_items c.self.inside.free)
          (heap_items c.put_free.new.free)
          c.self.inside.got.items
          c.args.slot
          c.self.invariant.0
          within
          (taken_at c.self.inside.got.items c.args.slot c.index.result.now within taken)
          c.put_free.ensures.put
          longer,
      c.put_free.ensures.queue,
      search rules,
    )
