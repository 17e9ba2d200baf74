use Rattle.std.proofs.Common.{◌≡◌, ◌==◌, ℕ, drop}
use Rattle.lk_symbol_values.specs.SlotNumbers.{entry_of, place_from}
use Rattle.lk_symbol_values.proofs.slot_numbers.entry_numbers.Given as goal

abbrev pub invariant-loop-number : goal.invariant-loop-number
invariant-loop-number l = (n : ℕ) → entry_of l.numbers.entries n ≡ place_from (λ m. m == n) l.number (drop l.number l.names)
