use Rattle.lk_task_runs.proofs.ScheduledTasks as scheduled
use Rattle.lk_task_runs.proofs.laws.some_task_is_runnable.Goals as goal

pub returns : goal.returns
returns c = scheduled.some_task_is_runnable
