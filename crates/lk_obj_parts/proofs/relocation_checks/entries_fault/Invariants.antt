use Rattle.std.specs.Prelude.{◌≡◌, ◌-◌}
use Rattle.lk_obj_parts.specs.RelocationParts.{entry_faults}
use Rattle.lk_obj_parts.proofs.relocation_checks.entries_fault.Given as goal

abbrev pub invariant-loop-k : goal.invariant-loop-k
invariant-loop-k l =
    entry_faults l.bytes l.section l.count l.n l.target l.k (l.entries - l.k)
    ≡ entry_faults l.bytes l.section l.count l.n l.target 0 l.entries
