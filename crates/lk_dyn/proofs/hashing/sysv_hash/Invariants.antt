use Rattle.std.specs.Prelude.{◌≡◌, drop, fold}
use Rattle.lk_model.specs.HashTable.{hash_step}
use Rattle.lk_dyn.proofs.hashing.sysv_hash.Given as goal

abbrev pub invariant-loop-character : goal.invariant-loop-character
invariant-loop-character l = fold hash_step l.hash (drop l.character-index l.name) ≡ fold hash_step 0 l.name
