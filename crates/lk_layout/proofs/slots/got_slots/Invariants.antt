use Rattle.std.proofs.Common.{◌≡◌, ◌++◌, map, drop, Some}
use Rattle.lk_layout.proofs.slots.got_slots.Given as goal

abbrev pub invariant-loop-key : goal.invariant-loop-key
invariant-loop-key l = l.slots ++ map Some (drop l.key-index l.keys) ≡ map Some l.keys
