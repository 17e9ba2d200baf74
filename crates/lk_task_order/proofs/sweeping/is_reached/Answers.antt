use Rattle.std.proofs.Common.{ap, ◌∙◌, refl}
use Rattle.std.proofs.lemmas.Bool.{eq-eqb}
use Rattle.lk_task_runs.specs.Phases.{is_token}
use Rattle.lk_task_order.proofs.sweeping.is_reached.Goals as goal

pub bounds-reached-token : goal.bounds-reached-token
bounds-reached-token c = c.requires c.in-Some.token (ap (is_token c.in-Some.token) c.in-Some.is ∙ eq-eqb c.in-Some.token c.in-Some.token refl)
