use Rattle.std.proofs.Common.{◌≡◌, ◌++◌, map, drop}
use Rattle.lk_layout.specs.PieceRows.{group_row_place}
use Rattle.lk_layout.proofs.row_places.group_row_places.Given as goal

abbrev pub invariant-loop-number : goal.invariant-loop-number
invariant-loop-number l = l.row_places.items ++ map (group_row_place l.rows) (drop l.number l.kept.sections) ≡ map (group_row_place l.rows) l.kept.sections
