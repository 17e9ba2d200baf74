use Rattle.std.proofs.Common.{◌≡◌, ◌++◌, drop}
use Rattle.std.specs.List.{flat_map}
use Rattle.lk_probe.specs.Rows.{row_line}
use Rattle.lk_probe.proofs.rows.put_rows.Given as goal

abbrev pub invariant-loop-row : goal.invariant-loop-row
invariant-loop-row l = l.text.items ++ flat_map row_line (drop l.row-index l.rows) ≡ l.initial.text.items ++ flat_map row_line l.rows
