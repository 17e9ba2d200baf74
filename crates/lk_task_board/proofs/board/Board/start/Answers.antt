use Rattle.lk_task_board.proofs.Steps.{start_board}
use Rattle.lk_task_board.proofs.board.Board.start.Goals as goal

pub invariant_of-self : goal.invariant_of-self
invariant_of-self c =
    let there = rw (← c.self.view_is) at c.requires.there in
    let runs = rw (← c.self.view_is) at c.requires.runnable in
    let locks = rw c.deref.ensures.value at c.lock_task.ensures.locked in
    rw c.set.ensures (start_board _ _ _ _ _ _ _ _ _ _ _ c.self.invariant there runs c.lock_task.ensures.counts c.lock_task.ensures.size locks)
