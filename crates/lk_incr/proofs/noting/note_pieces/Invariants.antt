use Rattle.std.proofs.Common.{◌≡◌, drop, fold, map}
use Rattle.lk_model.specs.Texts.{with_text}
use Rattle.lk_incr.specs.NotedTexts.{piece_name}
use Rattle.lk_incr.proofs.noting.note_pieces.Given as goal

-- the table with the names that are left is the table with all names
abbrev pub invariant-loop-piece : goal.invariant-loop-piece
invariant-loop-piece l = fold with_text l.table (map piece_name (drop l.piece-index l.pieces)) ≡ fold with_text l.initial.table (map piece_name l.pieces)
