use Rattle.std.specs.Prelude.{◌≡◌, ◌++◌, drop, flat_map}
use Rattle.std.specs.List.{enumerate_from}
use Rattle.lk_dyn.specs.JumpSlots.{jump_entry_bytes}
use Rattle.lk_dyn.proofs.relocations.put_jumps.Given as goal

abbrev pub invariant-loop-number : goal.invariant-loop-number
invariant-loop-number l =
    l.out.items ++ flat_map (jump_entry_bytes l.numbers l.got) (enumerate_from l.number (drop l.number l.plt))
    ≡ l.initial.out.items ++ flat_map (jump_entry_bytes l.numbers l.got) (enumerate_from 0 l.plt)
