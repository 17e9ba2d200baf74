use Rattle.std.proofs.Common.{◌≡◌, ◌++◌, drop}
use Rattle.lk_dyn_sizes.specs.Fills.{as_fills, fills_from}
use Rattle.lk_dyn_sizes.proofs.fills.fills_among.Given as goal

abbrev pub invariant-loop-slot : goal.invariant-loop-slot
invariant-loop-slot l = as_fills l.fills ++ fills_from l.names l.copied.keys l.slot (drop l.slot l.slots) ≡ fills_from l.names l.copied.keys 0 l.slots
