use Rattle.std.specs.Prelude.{◌≡◌, ◌++◌, ◌-◌, flat_map, length}
use Rattle.std.specs.List.{range_with_len}
use Rattle.lk_model.specs.PltEntries.{first_entry_bytes, plt_entry_bytes}
use Rattle.lk_dyn.proofs.calls.plt_table.Given as goal

abbrev pub invariant-loop-number : goal.invariant-loop-number
invariant-loop-number l =
    l.out.items ++ flat_map (plt_entry_bytes l.plt l.got) (range_with_len l.number (length l.place.slots.plt - l.number))
    ≡ first_entry_bytes l.plt l.got ++ flat_map (plt_entry_bytes l.plt l.got) (range_with_len 0 (length l.place.slots.plt))
