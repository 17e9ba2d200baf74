use Rattle.std.specs.Prelude.{◌≡◌, ◌++◌, drop, flat_map}
use Rattle.lk_dyn.specs.DynamicEntries.{needed_bytes}
use Rattle.lk_dyn.proofs.dynamic_section.put_needed.Given as goal

abbrev pub invariant-loop-number : goal.invariant-loop-number
invariant-loop-number l =
    l.out.items ++ flat_map (needed_bytes l.texts) (drop l.number l.needed)
    ≡ l.initial.out.items ++ flat_map (needed_bytes l.texts) l.needed
