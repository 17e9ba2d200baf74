use Rattle.std.proofs.Common.{◌≡◌, ◌++◌, Some, drop, map}
use Rattle.lk_resolve.specs.declared.members.Member.{Member}
use Rattle.lk_resolve.proofs.name_searches.placed.Given as goal

abbrev pub invariant-loop-member : goal.invariant-loop-member
invariant-loop-member l = l.members.items ++ map (λ (m : Member). Some m) (drop l.member-index l.waiting) ≡ map (λ (m : Member). Some m) l.waiting
