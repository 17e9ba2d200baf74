use Rattle.std.specs.Prelude.{◌≡◌, ◌-◌, map}
use Rattle.std.specs.List.{range_with_len}
use Rattle.lk_loader.specs.HeaderRows.{header_at, rows_refusal}
use Rattle.lk_loader.proofs.program_headers.read_headers.Given as goal

abbrev pub invariant-loop-n : goal.invariant-loop-n
invariant-loop-n l = record {
  items : l.headers.items ≡ map (header_at l.image l.table) (range_with_len 0 l.n);
  none : rows_refusal l.image l.table l.n (l.count - l.n) ≡ rows_refusal l.image l.table 0 l.count;
}
