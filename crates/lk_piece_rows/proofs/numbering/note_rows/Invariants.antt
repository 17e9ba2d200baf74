use Rattle.std.proofs.Common.{◌≡◌, ℕ, drop, length}
use Rattle.lk_piece_rows.specs.RowNumbers.{number_in, row_among, row_numbered}
use Rattle.lk_piece_rows.proofs.numbering.note_rows.Given as goal

-- the rows from a number on are found
abbrev pub invariant-loop-number : goal.invariant-loop-number
invariant-loop-number l = record {
  count : length l.numbers ≡ length l.initial.numbers;
  found : (n s : ℕ) → row_numbered l.rows (number_in l.ranges l.numbers n s) ≡ row_among (drop l.number l.rows) n s;
}
