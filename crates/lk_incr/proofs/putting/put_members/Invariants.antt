use Rattle.std.proofs.Common.{◌≡◌, ◌++◌, drop}
use Rattle.std.specs.List.{flat_map}
use Rattle.lk_elf.specs.Fields.{bytes_of}
use Rattle.lk_incr.proofs.putting.put_members.Given as goal

-- the bytes put so far, followed by those of the members that are left, are the bytes before and those of all members
abbrev pub invariant-loop-member : goal.invariant-loop-member
invariant-loop-member l =
    l.out.items ++ flat_map (bytes_of 4) (drop l.member-index l.members) ≡ l.initial.out.items ++ flat_map (bytes_of 4) l.members
