use Rattle.std.specs.Prelude.{◌≡◌, ◌+◌, ◌*◌, map, vec_len}
use Rattle.std.specs.List.{range_with_len}
use Rattle.lk_elf.specs.Records.{shdr_at}
use Rattle.lk_obj_parts.proofs.file_table.headers_at.Given as goal

abbrev pub invariant-loop-n : goal.invariant-loop-n
invariant-loop-n l = record {
  items : l.sections.items ≡ map (λ n. shdr_at l.bytes (l.at + 64 * n)) (range_with_len 0 l.n);
  count : vec_len l.sections ≡ l.n;
}
