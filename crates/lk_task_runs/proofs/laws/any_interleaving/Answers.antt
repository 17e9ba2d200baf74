use Rattle.lk_task_runs.proofs.RunsSettled as settled
use Rattle.lk_task_runs.proofs.laws.any_interleaving.Goals as goal

pub returns : goal.returns
returns g c = settled.any_interleaving _
