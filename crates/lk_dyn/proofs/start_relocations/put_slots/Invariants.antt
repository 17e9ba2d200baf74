use Rattle.std.specs.Prelude.{◌≡◌, ◌++◌, drop, flat_map}
use Rattle.lk_dyn.specs.StartRelocations.{slot_entry_bytes}
use Rattle.lk_dyn.proofs.start_relocations.put_slots.Given as goal

abbrev pub invariant-loop-fill : goal.invariant-loop-fill
invariant-loop-fill l =
    l.out.items ++ flat_map (slot_entry_bytes l.numbers l.got) (drop l.fill-index l.fills)
    ≡ l.initial.out.items ++ flat_map (slot_entry_bytes l.numbers l.got) l.fills
