use Rattle.std.specs.Prelude.{◌≡◌, ◌-◌}
use Rattle.lk_so_read.specs.DynamicParts.{entries_from, soname_among}
use Rattle.lk_so_read.proofs.dynamic_entries.soname_offset.Given as goal

abbrev pub invariant-loop-k : goal.invariant-loop-k
invariant-loop-k l =
    soname_among (entries_from l.bytes l.dynamic l.k (l.count - l.k)) ≡ soname_among (entries_from l.bytes l.dynamic 0 l.count)
