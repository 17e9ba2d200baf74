use Rattle.std.specs.Prelude.{◌≡◌, take}
use Rattle.lk_dyn.specs.HashWords.{buckets_by, heads_of, nexts_of}
use Rattle.lk_dyn.proofs.hash_tables.chained.Given as goal

abbrev pub invariant-loop-number : goal.invariant-loop-number
invariant-loop-number l =
    (l.heads.items ≡ heads_of l.count (buckets_by l.count (take l.number l.hashes)))
    × (l.nexts.items ≡ nexts_of (buckets_by l.count (take l.number l.hashes)))
