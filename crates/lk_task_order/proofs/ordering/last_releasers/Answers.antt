use Rattle.std.proofs.Common.{sym, ap, ◌∙◌, refl, arith}
use Rattle.std.proofs.lemmas.Bool.{eq-eqb}
use Rattle.lk_task_runs.specs.declared.tasks.Needs.{Needs}
use Rattle.lk_task_runs.specs.Phases.{is_token}
use Rattle.lk_task_order.proofs.ordering.last_releasers.Goals as goal

pub index_mut-requires : goal.index_mut-requires
index_mut-requires c =
    omega (arith, c.requires.known c.loop-task.task c.in-Some.token (ap (is_token c.in-Some.token) (sym (ap (λ (n : Needs). n.releases) c.need_at.ensures) ∙ c.in-Some.is) ∙ eq-eqb c.in-Some.token c.in-Some.token refl), c.loop-task.invariant.size, c.loop-task.last.ok.0)
