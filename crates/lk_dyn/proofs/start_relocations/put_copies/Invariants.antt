use Rattle.std.specs.Prelude.{◌≡◌, ◌++◌, drop, flat_map}
use Rattle.lk_dyn.specs.StartRelocations.{copy_entry_at, copy_of, or_zero}
use Rattle.lk_dyn.proofs.start_relocations.put_copies.Given as goal

abbrev pub invariant-loop-name : goal.invariant-loop-name
invariant-loop-name l =
    l.out.items ++ flat_map (λ n. copy_entry_at l.numbers (or_zero (copy_of l.addresses.entries n)) n) (drop l.name-index l.names)
    ≡ l.initial.out.items ++ flat_map (λ n. copy_entry_at l.numbers (or_zero (copy_of l.addresses.entries n)) n) l.names
