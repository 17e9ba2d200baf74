use Rattle.lk_model.specs.InputsSection.{piece_fields}
use Rattle.lk_incr.proofs.WordsSpelled.{words_put}
use Rattle.lk_incr.proofs.pieces.put_piece.Goals as goal

pub returns : goal.returns
returns c = words_put _ (piece_fields c.args.placed.now c.args.input c.args.piece.now) _ _ _ c.piece_words.ensures c.in_ok-put_words.ensures
