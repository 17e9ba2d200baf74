use Rattle.std.proofs.Common.{◌≡◌, ◌||◌, ℕ, drop}
use Rattle.lk_marks.specs.Marked.{is_marked}
use Rattle.lk_symbol_values.specs.MadeValues.{has_piece_at}
use Rattle.lk_symbol_values.proofs.made_values.sections_with_pieces.Given as goal

-- the marks so far and the pieces that are left are all pieces
abbrev pub invariant-loop-piece : goal.invariant-loop-piece
invariant-loop-piece l = (n : ℕ) → (is_marked l.with_pieces n || has_piece_at (drop l.piece-index l.pieces) n) ≡ has_piece_at l.pieces n
