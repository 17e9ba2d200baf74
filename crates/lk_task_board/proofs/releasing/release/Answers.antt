use Rattle.std.proofs.Common.{◌≡◌, true, ap, sym, ◌∙◌, refl}
use Rattle.std.proofs.lemmas.Bool.{eq-eqb}
use Rattle.lk_task_runs.specs.declared.tasks.Needs.{Needs}
use Rattle.lk_task_runs.specs.Phases.{need, is_token}
use Rattle.lk_task_board.proofs.releasing.release.Goals as goal
use Rattle.lk_task_board.proofs.releasing.release.Goals.{In-Some}

releases_it : (c : In-Some) → is_token c.in-Some.token (need c.args.needs.now c.args.task).releases ≡ true
releases_it c = ap (is_token c.in-Some.token) (sym (ap (λ (n : Needs). n.releases) c.need_at.ensures) ∙ c.in-Some.is) ∙ eq-eqb c.in-Some.token c.in-Some.token refl

pub unblock-requires-clause-there : goal.unblock-requires-clause-there
unblock-requires-clause-there c = c.requires.there c.in-Some.token (releases_it (goal.at.unblock-requires-clause-there c).In-Some)

pub unblock-requires-clause-counted : goal.unblock-requires-clause-counted
unblock-requires-clause-counted c = c.requires.counted c.in-Some.token (releases_it (goal.at.unblock-requires-clause-counted c).In-Some)
