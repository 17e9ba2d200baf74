use Rattle.std.proofs.Common.{◌≡◌, ℕ, ◌<◌, ◌≤◌, false, not, length}
use Rattle.lk_task_runs.specs.Phases.{need}
use Rattle.lk_task_board.specs.Trees.{mark}
use Rattle.lk_task_board.specs.Tokens.{is_counted_up}
use Rattle.lk_task_board.proofs.beginning.mark_ready.Given as goal

abbrev pub invariant-loop-task : goal.invariant-loop-task
invariant-loop-task l = record {
  room : length l.ready ≡ length l.fn.ready;
  done : (k : ℕ) → k < l.task → mark l.ready k ≡ not (is_counted_up l.tokens (need l.needs k).waits);
  left : (k : ℕ) → l.task ≤ k → mark l.ready k ≡ false;
}
