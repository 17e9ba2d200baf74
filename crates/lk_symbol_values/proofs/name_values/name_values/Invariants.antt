use Rattle.std.proofs.Common.{◌≡◌, ℕ, ◌<◌, ◌^◌, ◌++◌, drop, slice_get}
use Rattle.lk_symbol_values.specs.NameValues.{given_at, values_from}
use Rattle.lk_symbol_values.proofs.name_values.name_values.Given as goal

abbrev pub invariant-loop-number : goal.invariant-loop-number
invariant-loop-number l = record {
  values : l.values ++ values_from l.inputs l.addresses l.made l.number (drop l.number l.names) ≡ values_from l.inputs l.addresses l.made 0 l.names;
  fit : (k : ℕ) → k < l.number → given_at l.inputs l.addresses k (slice_get l.names k) < 2 ^ 64;
}
