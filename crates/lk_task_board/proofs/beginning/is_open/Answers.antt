use Rattle.std.proofs.Common.{ap, ◌∙◌, refl}
use Rattle.std.proofs.lemmas.Bool.{eq-eqb}
use Rattle.lk_task_runs.specs.Phases.{is_token}
use Rattle.lk_task_board.proofs.beginning.is_open.Goals as goal

pub is_blocked-requires : goal.is_blocked-requires
is_blocked-requires c = c.requires c.in-Some.token (ap (is_token c.in-Some.token) c.in-Some.is ∙ eq-eqb c.in-Some.token c.in-Some.token refl)
