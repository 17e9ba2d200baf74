use Rattle.std.proofs.Common.{◌≡◌, ◌++◌, drop}
use Rattle.lk_layout.proofs.section_rows.narrowed_rows.Given as goal

abbrev pub invariant-loop-row : goal.invariant-loop-row
invariant-loop-row l = l.narrowed ++ drop l.row-index l.rows ≡ l.rows
