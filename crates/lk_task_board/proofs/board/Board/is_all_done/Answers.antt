use Rattle.lk_task_board.proofs.Steps.{all_done_is}
use Rattle.lk_task_board.proofs.board.Board.is_all_done.Goals as goal

pub returns : goal.returns
returns c = rw (← c.self.view_is) (all_done_is c.self.inside.needs.items c.self.inside.phases.items c.self.inside.left c.self.invariant.size c.self.invariant.left_is)
