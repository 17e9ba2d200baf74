use Rattle.std.specs.Prelude.{◌≡◌, ◌++◌, drop, flat_map}
use Rattle.lk_elf.specs.Records.{dyn_bytes}
use Rattle.lk_dyn.proofs.dynamic_section.put_entries.Given as goal

abbrev pub invariant-loop-entry : goal.invariant-loop-entry
invariant-loop-entry l =
    l.out.items ++ flat_map dyn_bytes (drop l.entry-index l.entries)
    ≡ l.initial.out.items ++ flat_map dyn_bytes l.entries
