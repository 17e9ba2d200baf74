use Rattle.std.proofs.Common.{◌≡◌, ℕ, ◌<◌, length}
use Rattle.lk_token.specs.TokenStates.{count_of}
use Rattle.lk_task_runs.specs.Below.{count_below}
use Rattle.lk_task_runs.specs.Phases.{need, is_token}
use Rattle.lk_task_board.proofs.beginning.count_releases.Given as goal

abbrev pub invariant-loop-task : goal.invariant-loop-task
invariant-loop-task l = record {
  size : length l.tokens.counts ≡ length l.fn.tokens.counts;
  locked : l.tokens.locked ≡ l.fn.tokens.locked;
  counts : (b : ℕ) → b < length l.fn.tokens.counts → count_of l.tokens b ≡ count_below (λ t. is_token b (need l.needs t).releases) l.task;
}
