use Rattle.std.proofs.Common.{◌≡◌, ◌++◌, map, drop}
use Rattle.lk_layout.specs.Ranked.{ranked_of}
use Rattle.lk_layout.proofs.ranks.ranked_pieces.Given as goal

abbrev pub invariant-loop-piece : goal.invariant-loop-piece
invariant-loop-piece l = l.all.items ++ map ranked_of (drop l.piece-index l.pieces) ≡ map ranked_of l.pieces
