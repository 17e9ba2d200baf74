use Rattle.std.proofs.Common.{◌≡◌, ℕ, ◌||◌, drop}
use Rattle.lk_marks.specs.Marked.{is_marked}
use Rattle.lk_relocate.specs.PieceLists.{is_listed}
use Rattle.lk_relocate.proofs.piece_marks.mark_pieces.Given as goal

abbrev pub invariant-loop-piece : goal.invariant-loop-piece
invariant-loop-piece l = (k : ℕ) → (is_marked l.marks k || is_listed k (drop l.piece-index l.pieces)) ≡ is_listed k l.pieces
