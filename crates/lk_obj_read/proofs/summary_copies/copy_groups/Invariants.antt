use Rattle.std.proofs.Common.{◌≡◌, take}
use Rattle.lk_obj_read.proofs.summary_copies.copy_groups.Given as goal

-- the copies made so far are the groups passed
abbrev pub invariant-loop-group : goal.invariant-loop-group
invariant-loop-group l = l.copies ≡ take l.group-index l.groups
