use Rattle.std.proofs.Common.{◌≡◌, ℕ, true, ap, sym, ◌∙◌, refl, arith}
use Rattle.std.proofs.lemmas.Bool.{eq-eqb}
use Rattle.lk_task_runs.specs.declared.tasks.Needs.{Needs}
use Rattle.lk_task_runs.specs.Phases.{need, is_token}
use Rattle.lk_task_board.proofs.Counting.{count_le}
use Rattle.lk_task_board.proofs.beginning.count_releases.Goals as goal
use Rattle.lk_task_board.proofs.beginning.count_releases.Goals.{In-Some}

releases_it : (c : In-Some) → is_token c.in-Some.token (need c.args.needs.now c.loop-task.task).releases ≡ true
releases_it c = ap (is_token c.in-Some.token) (sym (ap (λ (n : Needs). n.releases) c.need_at.ensures) ∙ c.in-Some.is) ∙ eq-eqb c.in-Some.token c.in-Some.token refl

pub add_blocker-requires-clause-there : goal.add_blocker-requires-clause-there
add_blocker-requires-clause-there c = rw c.loop-task.invariant.size (c.requires.known c.loop-task.task c.in-Some.token (releases_it (goal.at.add_blocker-requires-clause-there c).In-Some))

pub add_blocker-requires-clause-room : goal.add_blocker-requires-clause-room
add_blocker-requires-clause-room c =
    let there = c.requires.known c.loop-task.task c.in-Some.token (releases_it (goal.at.add_blocker-requires-clause-room c).In-Some) in
    omega (arith, c.loop-task.invariant.counts c.in-Some.token there, count_le (λ (t : ℕ). is_token c.in-Some.token (need c.args.needs.now t).releases) c.loop-task.task)
