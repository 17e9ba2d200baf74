use Rattle.std.proofs.Common.{ap, ◌∙◌, List, length, replicate}
use Rattle.lk_layout.specs.PieceRows.{row_in, rows_by}
use Rattle.lk_layout.specs.declared.row_places.RowPlace.{RowPlace}
use Rattle.lk_layout.proofs.PiecesInTurn.{placed_in_turn}
use Rattle.lk_layout.proofs.piece_rows.piece_rows.Goals as goal

-- the rows in turn are those of all pieces
pub returns : goal.returns
returns c = λ all groups.
    placed_in_turn c.args.rows.now all c.args.kept.now c.args.walks.now c.as_slice.result.now c.in_ok-placed.placed c.requires (c.as_slice.ensures.value ∙ c.in_ok-row_places.ensures) groups c.in_ok-placed.ensures
