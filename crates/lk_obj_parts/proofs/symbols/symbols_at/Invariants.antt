use Rattle.std.specs.Prelude.{◌≡◌, ◌+◌, ◌*◌, map, vec_len}
use Rattle.std.specs.List.{range_with_len}
use Rattle.lk_elf.specs.Records.{sym_at}
use Rattle.lk_obj_parts.proofs.symbols.symbols_at.Given as goal

abbrev pub invariant-loop-k : goal.invariant-loop-k
invariant-loop-k l = record {
  items : l.symbols.items ≡ map (λ k. sym_at l.bytes (l.at + 24 * k)) (range_with_len 0 l.k);
  count : vec_len l.symbols ≡ l.k;
}
