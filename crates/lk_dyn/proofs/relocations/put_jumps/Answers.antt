use Rattle.std.proofs.Common.{refl}
use Rattle.std.specs.Prelude.{◌++◌, flat_map, get_or}
use Rattle.std.specs.List.{enumerate_from}
use Rattle.lk_model.specs.PltEntries.{jump_slot_address}
use Rattle.lk_dyn.specs.JumpSlots.{jump_entry_bytes}
use Rattle.lk_dyn.proofs.PutInTurn.{item_step}
use Rattle.lk_dyn.proofs.relocations.put_jumps.Goals as goal

pub loop-number-preserved : goal.loop-number-preserved
loop-number-preserved c =
    item_step
    (jump_entry_bytes c.args.numbers.now c.args.got)
    c.args.plt.now
    c.loop-number.out.items
    c.put_relocation.new.out.items
    (c.args.out.now.items ++ flat_map (jump_entry_bytes c.args.numbers.now c.args.got) (enumerate_from 0 c.args.plt.now))
    c.loop-number.number
    (get_or c.args.plt.now c.loop-number.number 0)
    c.loop-number-test.true
    refl
    (c.in_ok-put_relocation.ensures (jump_slot_address c.args.got c.loop-number.number) c.jump_slot.ensures)
    c.loop-number.invariant
