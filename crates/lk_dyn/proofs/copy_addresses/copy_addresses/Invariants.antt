use Rattle.std.proofs.Common.{◌≡◌, ℕ, drop}
use Rattle.lk_dyn.specs.StartRelocations.{copy_in, copy_of}
use Rattle.lk_dyn.proofs.copy_addresses.copy_addresses.Given as goal

abbrev pub invariant-loop-number : goal.invariant-loop-number
invariant-loop-number l = (n : ℕ) → copy_of l.addresses.entries n ≡ copy_in (drop l.number l.rows) n
