use Rattle.std.proofs.Common.{◌∙◌, ap, refl}
use Rattle.std.specs.Prelude.{ℕ, ◌++◌, flat_map}
use Rattle.lk_elf.specs.Fields.{bytes_of}
use Rattle.lk_model.specs.Resolving.{resolve}
use Rattle.lk_dyn.specs.LocalSlots.{content_bytes}
use Rattle.lk_dyn.proofs.PutInTurn.{listed_end, listed_step}
use Rattle.lk_dyn.proofs.got_contents.put_contents.Goals as goal

pub loop-slot-preserved : goal.loop-slot-preserved
loop-slot-preserved c = λ needs options xs given lawful.
    let content = content_bytes (resolve options xs) c.args.values.now.place c.args.locals.now.entries in
    listed_step
    content
    _
    c.args.slots.now
    c.loop-slot.out.items
    c.put_long.new.out.items
    (c.args.out.now.items ++ flat_map content c.args.slots.now)
    c.loop-slot.slot-index
    _
    c.loop-slot-test.true
    refl
    (c.in_ok-put_long.ensures ∙ ap (λ (v : ℕ). c.loop-slot.out.items ++ bytes_of 8 v) (c.slot_content.ensures needs options xs given lawful))
    (c.loop-slot.invariant needs options xs given lawful)

pub returns : goal.returns
returns c = λ needs options xs given lawful.
    let content = content_bytes (resolve options xs) c.args.values.now.place c.args.locals.now.entries in
    listed_end content c.args.slots.now c.loop-slot.out.items (c.args.out.now.items ++ flat_map content c.args.slots.now) c.loop-slot.slot-index c.loop-slot-test.false (c.loop-slot.invariant needs options xs given lawful)
