use Rattle.std.proofs.Common.{◌≡◌, ℕ, drop, get_or, max}
use Rattle.lk_piece_rows.specs.RowNumbers.{section_count}
use Rattle.lk_piece_rows.proofs.section_counts.section_counts.Given as goal

-- the counts so far, raised by the rows that are left, are those of all rows
abbrev pub invariant-loop-row : goal.invariant-loop-row
invariant-loop-row l = (n : ℕ) → max (get_or l.counts.items n 0) (section_count (drop l.row-index l.rows) n) ≡ section_count l.rows n
