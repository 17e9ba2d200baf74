use Rattle.std.proofs.Common.{◌≡◌, take}
use Rattle.lk_report.proofs.lists.List.copy.Given as goal

-- the copies made so far are the items passed
abbrev pub invariant-loop-item : goal.invariant-loop-item
invariant-loop-item g l = l.items.items ≡ take l.item-index l.item-items
