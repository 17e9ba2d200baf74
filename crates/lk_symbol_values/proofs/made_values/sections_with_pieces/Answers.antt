use Rattle.std.proofs.Common.{arith}
use Rattle.lk_symbol_values.proofs.Bounds.{marked_all, marked_more}
use Rattle.lk_symbol_values.proofs.made_values.sections_with_pieces.Goals as goal

pub loop-piece-preserved : goal.loop-piece-preserved
loop-piece-preserved c = λ n.
    marked_more c.args.pieces.now c.loop-piece.piece-index _ n _ _ _ (omega arith) (c.in_ok-mark.ensures.marked n) (c.loop-piece.invariant n)

pub returns : goal.returns
returns c = λ n. marked_all c.args.pieces.now c.loop-piece.piece-index n _ _ (omega arith) (c.loop-piece.invariant n)
