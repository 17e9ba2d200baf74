use Rattle.std.proofs.Common.{◌≡◌, ◌++◌, drop}
use Rattle.lk_dyn_sizes.specs.DynamicRows.{numbers_where}
use Rattle.lk_dyn_tables.specs.WinnerNames.{has_winner}
use Rattle.lk_dyn_tables.proofs.winning_names.winners_among.Given as goal

abbrev pub invariant-loop-number : goal.invariant-loop-number
invariant-loop-number l = l.numbers ++ numbers_where has_winner l.number (drop l.number l.names) ≡ numbers_where has_winner 0 l.names
