use Rattle.std.proofs.Common.{◌≡◌, ◌+◌, ◌==◌, drop, get_or}
use Rattle.std.specs.List.{list_all}
use Rattle.lk_task_runs.specs.Phases.{need}
use Rattle.lk_task_order.specs.Sweeps.{passes_token}
use Rattle.lk_task_order.proofs.sweeping.are_reached.Given as goal

abbrev pub invariant-loop-other : goal.invariant-loop-other
invariant-loop-other l = list_all (λ t. passes_token (λ b. get_or l.reached b 0 == l.task + 1) (need l.needs t).releases) (drop l.other-index l.before) ≡ list_all (λ t. passes_token (λ b. get_or l.reached b 0 == l.task + 1) (need l.needs t).releases) l.before
