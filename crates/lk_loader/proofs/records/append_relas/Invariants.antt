use Rattle.std.specs.Prelude.{◌≡◌, ◌*◌, ◌++◌, map}
use Rattle.std.specs.List.{range_with_len}
use Rattle.lk_elf.specs.Records.{rela_at}
use Rattle.lk_loader.proofs.records.append_relas.Given as goal

abbrev pub invariant-loop-k : goal.invariant-loop-k
invariant-loop-k l = l.relas.items ≡ l.fn.relas.items ++ map (λ k. rela_at l.bytes (24 * k)) (range_with_len 0 l.k)
