use Rattle.std.proofs.Common.{◌≡◌, ◌++◌, drop}
use Rattle.std.specs.List.{flat_map}
use Rattle.lk_fill.specs.Covering.{piece_covers}
use Rattle.lk_fill.proofs.covering.cover_pieces.Given as goal

abbrev pub invariant-loop-piece : goal.invariant-loop-piece
invariant-loop-piece l =
    l.ranges.items ++ flat_map (piece_covers l.rows) (drop l.piece-index l.pieces) ≡ l.initial.ranges.items ++ flat_map (piece_covers l.rows) l.pieces
