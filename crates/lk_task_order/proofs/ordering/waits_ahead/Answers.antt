use Rattle.std.proofs.Common.{◌≡◌, ◌<◌, length, Some, sym, ap, ◌∙◌, refl}
use Rattle.std.proofs.lemmas.Bool.{eq-eqb}
use Rattle.lk_task_runs.specs.declared.tasks.Needs.{Needs}
use Rattle.lk_task_runs.specs.Phases.{need, is_token}
use Rattle.lk_task_order.proofs.FirstFound.{ahead_none, ahead_some}
use Rattle.lk_task_order.proofs.ordering.waits_ahead.Goals as goal
use Rattle.lk_task_order.proofs.ordering.waits_ahead.Goals.{In-Some}

waits_is : (c : In-Some) → (need c.args.needs.now c.args.task).waits ≡ Some c.in-Some.token
waits_is c = sym (ap (λ (n : Needs). n.waits) c.need_at.ensures) ∙ c.in-Some.is

known : (c : In-Some) → c.in-Some.token < length c.args.releasers.now
known c = c.requires.known c.in-Some.token (ap (is_token c.in-Some.token) (waits_is c) ∙ eq-eqb c.in-Some.token c.in-Some.token refl)

pub bounds-releasers-token : goal.bounds-releasers-token
bounds-releasers-token c = known (goal.at.bounds-releasers-token c).In-Some

pub returns-in-None : goal.returns-in-None
returns-in-None c = ahead_none c.args.needs.now c.args.task (sym (ap (λ (n : Needs). n.waits) c.need_at.ensures) ∙ c.in-None.is)

pub returns-in-Some : goal.returns-in-Some
returns-in-Some c =
    let d = (goal.at.returns-in-Some c).In-Some in
    ahead_some c.args.needs.now c.args.task c.in-Some.token _ (waits_is d) (c.requires.last c.in-Some.token (known d))
