use Rattle.std.proofs.Common.{◌≡◌, ◌++◌, map, drop}
use Rattle.lk_scan.specs.ReferralNeeds.{key_of}
use Rattle.lk_scan.proofs.need_sets.list_of_slots.Given as goal

abbrev pub invariant-loop-slot : goal.invariant-loop-slot
invariant-loop-slot l = l.list ++ map key_of (drop l.slot-index l.slots) ≡ map key_of l.slots
