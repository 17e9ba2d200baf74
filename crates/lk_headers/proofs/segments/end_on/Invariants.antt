use Rattle.std.specs.Prelude.{◌≡◌, ◌<◌, ◌^◌, drop}
use Rattle.lk_headers.specs.Ends.{rows_in, end_after, end_on}
use Rattle.lk_headers.proofs.segments.end_on.Given as goal

abbrev pub invariant-loop-row : goal.invariant-loop-row
invariant-loop-row l = record {
  rest : end_after l.side l.most (rows_in l.segment (drop l.row-index l.rows)) ≡ end_on l.side (rows_in l.segment l.rows);
  bound : l.most < 2 ^ 65;
}
