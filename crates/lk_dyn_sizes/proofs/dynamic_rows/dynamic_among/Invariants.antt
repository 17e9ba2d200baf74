use Rattle.std.proofs.Common.{◌≡◌, ◌++◌, drop}
use Rattle.lk_dyn_sizes.specs.DynamicRows.{is_dynamic_row, numbers_where}
use Rattle.lk_dyn_sizes.proofs.dynamic_rows.dynamic_among.Given as goal

abbrev pub invariant-loop-number : goal.invariant-loop-number
invariant-loop-number l = l.numbers ++ numbers_where (is_dynamic_row l.needed.keys l.all) l.number (drop l.number l.names) ≡ numbers_where (is_dynamic_row l.needed.keys l.all) 0 l.names
