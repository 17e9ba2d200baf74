use Rattle.std.proofs.Common.{◌≡◌, ◌<◌, ℕ, true, sym, subst, arith}
use Rattle.lk_task_runs.specs.Phases.{blocks}
use Rattle.lk_task_order.proofs.Listing.{has_where}
use Rattle.lk_task_order.proofs.sweeping.lowest_left.Goals as goal

pub returns-clause-direct : goal.returns-clause-direct
returns-clause-direct c = λ t e l.
    let w = has_where t c.args.before.now e in
    subst (λ (x : ℕ). blocks c.args.needs.now x c.args.task ≡ true) w.2 (c.loop-other.invariant.direct w.0 (omega (arith, w.1)) (subst (λ (x : ℕ). x < c.loop-other.low) (sym w.2) l))
