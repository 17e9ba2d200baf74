use Rattle.std.specs.Prelude.{◌≡◌, ◌++◌, drop, map}
use Rattle.lk_model.specs.HashTable.{sysv_hash}
use Rattle.lk_dyn_sizes.specs.DynamicStrings.{texts_at}
use Rattle.lk_dyn.proofs.hash_tables.name_hashes.Given as goal

abbrev pub invariant-loop-number : goal.invariant-loop-number
invariant-loop-number l = l.hashes.items ++ map sysv_hash (texts_at l.names (drop l.number-index l.numbers)) ≡ map sysv_hash (texts_at l.names l.numbers)
