use Rattle.std.proofs.Common.{◌≡◌, ◌++◌, length, replicate, drop}
use Rattle.lk_layout.specs.PieceRows.{row_in, rows_by}
use Rattle.lk_layout.proofs.piece_rows.rows_in_order.Given as goal

abbrev pub invariant-loop-number : goal.invariant-loop-number
invariant-loop-number l =
    l.rows ++ rows_by (row_in l.kept.sections l.walks l.row_places) l.seen.items (drop l.number-index l.kept.order)
    ≡ rows_by (row_in l.kept.sections l.walks l.row_places) (replicate (length l.kept.sections) 0) l.kept.order
