use Rattle.std.proofs.Common.{ℕ, ◌<◌, ◌≤◌, ◌^◌, get_or}
use Rattle.lk_task_board.proofs.token_counts.past_all.Given as goal

abbrev pub invariant-loop-number : goal.invariant-loop-number
invariant-loop-number l = record {
  kept : l.fn.least ≤ l.past;
  few : l.past ≤ 2 ^ 32;
  past_each : (k : ℕ) → k < l.number-index → get_or l.numbers k 0 < l.past;
}
