use Rattle.std.proofs.Common.{◌∙◌}
use Rattle.lk_task_board.proofs.Steps.{lowest_is}
use Rattle.lk_task_board.proofs.board.Board.lowest.Goals as goal

pub returns : goal.returns
returns c = rw (← c.self.view_is) (c.lowest_free.ensures ∙ rw c.deref.ensures.value (lowest_is _ _ _ _ _ _ _ _ c.self.invariant))
