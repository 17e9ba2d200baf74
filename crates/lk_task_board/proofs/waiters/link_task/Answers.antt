use Rattle.std.proofs.Common.{◌≡◌, Option, Some, None, sym, ap, ◌∙◌, refl}
use Rattle.std.proofs.lemmas.Bool.{eq-eqb}
use Rattle.lk_task_runs.specs.declared.tasks.Needs.{Needs}
use Rattle.lk_task_runs.specs.Phases.{need, is_token}
use Rattle.lk_task_board.proofs.WaitersLinked.{link_some, link_none}
use Rattle.lk_task_board.proofs.waiters.link_task.Goals as goal
use Rattle.lk_task_board.proofs.waiters.link_task.Goals.{In-Some}

waits_is : (c : In-Some) → (need c.args.needs.now c.args.task).waits ≡ Some c.in-Some.token
waits_is c = sym (ap (λ (n : Needs). n.waits) c.need_at.ensures) ∙ c.in-Some.is

pub bounds-first-token : goal.bounds-first-token
bounds-first-token c = c.requires.known c.args.task c.in-Some.token (ap (is_token c.in-Some.token) (waits_is (goal.at.bounds-first-token c).In-Some) ∙ eq-eqb c.in-Some.token c.in-Some.token refl)

pub bounds-first-token-in-Some : goal.bounds-first-token-in-Some
bounds-first-token-in-Some c = c.requires.known c.args.task c.in-Some.token (ap (is_token c.in-Some.token) (waits_is (goal.at.bounds-first-token-in-Some c).In-Some) ∙ eq-eqb c.in-Some.token c.in-Some.token refl)

pub returns-in-Some : goal.returns-in-Some
returns-in-Some c =
    let w = waits_is (goal.at.returns-in-Some c).In-Some in
    link_some c.args.needs.now _ c.args.task c.in-Some.token c.args.first.now c.args.next.now c.requires.there w (c.requires.known c.args.task c.in-Some.token (ap (is_token c.in-Some.token) w ∙ eq-eqb c.in-Some.token c.in-Some.token refl)) c.requires.linked

pub returns-in_default : goal.returns-in_default
returns-in_default c = link_none c.args.needs.now _ c.args.task c.args.first.now c.args.next.now (sym (ap (λ (n : Needs). n.waits) c.need_at.ensures) ∙ c.in_default.is) c.requires.linked
