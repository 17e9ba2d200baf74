use Rattle.std.proofs.Common.{◌≡◌, ℕ, ◌<◌, ◌-◌, false, ◌&&◌, length}
use Rattle.lk_task_runs.specs.Phases.{need}
use Rattle.lk_task_board.specs.Trees.{mark}
use Rattle.lk_task_board.specs.Tokens.{are_free}
use Rattle.lk_task_board.proofs.board.lowest_free.Given as goal

abbrev pub invariant-loop-task : goal.invariant-loop-task
invariant-loop-task l = (k : ℕ) → k < l.from → (mark l.ready k && are_free l.tokens (need l.needs k).locks) ≡ false

abbrev pub decreases-loop-task : goal.decreases-loop-task
decreases-loop-task l = length l.ready - l.from
