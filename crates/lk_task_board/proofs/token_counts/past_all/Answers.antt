use Rattle.std.proofs.Common.{◌<◌, ℕ, subst, arith}
use Rattle.lk_task_board.proofs.Counting.{has_where}
use Rattle.lk_task_board.proofs.token_counts.past_all.Goals as goal

pub returns-clause-past : goal.returns-clause-past
returns-clause-past c = λ b e.
    let w = has_where b c.args.numbers.now e in
    subst (λ (x : ℕ). x < c.loop-number.past) w.2 (c.loop-number.invariant.past_each w.0 (omega (arith, w.1)))
