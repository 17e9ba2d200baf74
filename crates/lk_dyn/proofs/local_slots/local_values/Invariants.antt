use Rattle.std.proofs.Common.{◌≡◌, drop}
use Rattle.lk_dyn.specs.LocalSlots.{value_in, value_of}
use Rattle.lk_dyn.specs.declared.local_slots.LocalKey.{LocalKey}
use Rattle.lk_dyn.proofs.local_slots.local_values.Given as goal

abbrev pub invariant-loop-number : goal.invariant-loop-number
invariant-loop-number l = (k : LocalKey) → value_of l.values.entries k ≡ value_in (drop l.number l.rows) k
