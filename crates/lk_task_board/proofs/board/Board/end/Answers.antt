use Rattle.std.proofs.Common.{arith}
use Rattle.lk_task_board.proofs.Steps.{end_board, release_counted, one_left}
use Rattle.lk_task_board.proofs.board.Board.end.Goals as goal

pub release-requires-clause-counted : goal.release-requires-clause-counted
release-requires-clause-counted c =
    let there = rw (← c.self.view_is) at c.requires.there in
    let runs = rw (← c.self.view_is) at c.requires.running in
    rw c.deref-2.ensures.value (release_counted _ _ c.self.inside.tokens c.unlock_task.new.tokens _ _ _ _ _ _ c.self.invariant there runs c.unlock_task.ensures.counts)

pub overflow_sub-self : goal.overflow_sub-self
overflow_sub-self c =
    let there = rw (← c.self.view_is) at c.requires.there in
    let runs = rw (← c.self.view_is) at c.requires.running in
    one_left _ _ _ _ _ _ _ _ _ c.self.invariant there runs

pub invariant_of-self : goal.invariant_of-self
invariant_of-self c =
    let there = rw (← c.self.view_is) at c.requires.there in
    let runs = rw (← c.self.view_is) at c.requires.running in
    let locks = rw c.deref.ensures.value at c.unlock_task.ensures.locked in
    let tokens = rw c.deref-2.ensures.value at c.release.ensures.tokens in
    let marks = rw (c.deref-2.ensures.value, c.deref-3.ensures.value, tokens) at c.release.ensures.ready in
    rw (tokens, c.has_stopped-self-inside.ensures) (end_board _ _ _ _ _ _ _ _ _ _ _ _ c.self.invariant there runs c.unlock_task.ensures.counts c.unlock_task.ensures.size locks c.release.ensures.room marks)
