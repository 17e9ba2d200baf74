use Rattle.std.proofs.Common.{◌≡◌, fold, max, drop}
use Rattle.lk_model.specs.FullPlace.{align_of}
use Rattle.lk_model.specs.Views.{KeptPiece}
use Rattle.lk_layout.proofs.stretches.align_of.Given as goal

abbrev pub invariant-loop-piece : goal.invariant-loop-piece
invariant-loop-piece l = fold (λ align (piece : KeptPiece). max align piece.align) l.align (drop l.piece-index l.pieces) ≡ align_of l.pieces
