use Rattle.std.specs.Prelude.{◌≡◌, ◌++◌, drop}
use Rattle.lk_obj_parts.specs.GroupParts.{members_in, words_in}
use Rattle.lk_obj_parts.proofs.groups.members_of.Given as goal

abbrev pub invariant-loop-k : goal.invariant-loop-k
invariant-loop-k l = l.members ++ drop l.k (words_in l.bytes l.section) ≡ members_in l.bytes l.section
