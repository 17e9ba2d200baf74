use Rattle.std.specs.Prelude.{◌≡◌, ◌<◌, ◌^◌, drop, filter}
use Rattle.lk_symbol_values.specs.Sections.{memory_end_from, memory_end_in, segment_named}
use Rattle.lk_symbol_values.proofs.sections.memory_end.Given as goal

abbrev pub invariant-loop-row : goal.invariant-loop-row
invariant-loop-row l = record {
  rest : memory_end_from l.most (filter (segment_named l.segment) (drop l.row-index l.rows)) ≡ memory_end_in l.segment l.rows;
  bound : l.most < 2 ^ 65;
}
