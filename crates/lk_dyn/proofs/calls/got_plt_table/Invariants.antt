use Rattle.std.specs.Prelude.{◌≡◌, ◌++◌, drop, flat_map}
use Rattle.std.specs.List.{enumerate_from}
use Rattle.lk_model.specs.Tables.{got_plt_bytes, jump_bytes}
use Rattle.lk_dyn.proofs.calls.got_plt_table.Given as goal

abbrev pub invariant-loop-number : goal.invariant-loop-number
invariant-loop-number l =
    l.out.items ++ flat_map (jump_bytes l.place) (enumerate_from l.number (drop l.number l.place.slots.plt)) ≡ got_plt_bytes l.place
