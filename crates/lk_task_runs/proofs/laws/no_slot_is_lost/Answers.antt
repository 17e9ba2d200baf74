use Rattle.lk_task_runs.proofs.RunsSettled as settled
use Rattle.lk_task_runs.proofs.laws.no_slot_is_lost.Goals as goal

pub returns : goal.returns
returns g c = settled.no_slot_is_lost _
