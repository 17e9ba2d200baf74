use Rattle.std.specs.Prelude.{◌≡◌, ◌/◌, ◌-◌, ◌++◌, length}
use Rattle.lk_loader.proofs.EntriesCounted.{counted_from}
use Rattle.lk_loader.proofs.dynamic_entries.counted_entries.Given as goal

abbrev pub invariant-loop-k : goal.invariant-loop-k
invariant-loop-k l =
    l.entries.items ++ counted_from l.bytes l.k (length l.bytes / 16 - l.k) ≡ counted_from l.bytes 0 (length l.bytes / 16)
