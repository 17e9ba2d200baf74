use Rattle.std.proofs.Common.{◌≡◌, drop}
use Rattle.lk_symbol_values.specs.SlotNumbers.{is_slot_with, number_of, place_from}
use Rattle.lk_symbol_values.specs.declared.slot_numbers.OwnerKey.{OwnerKey}
use Rattle.lk_symbol_values.proofs.slot_numbers.slot_numbers.Given as goal

abbrev pub invariant-loop-number : goal.invariant-loop-number
invariant-loop-number l = (k : OwnerKey) → number_of l.numbers.entries k ≡ place_from (is_slot_with l.thread k) l.number (drop l.number l.slots)
