use Rattle.std.proofs.Common.{◌≡◌, map}
use Rattle.std.specs.List.{range_with_len}
use Rattle.lk_model.specs.Elf.{elf_of}
use Rattle.lk_scan.specs.Targets.{local_target}
use Rattle.lk_scan.proofs.target_lists.local_targets.Given as goal

abbrev pub invariant-loop-symbol : goal.invariant-loop-symbol
invariant-loop-symbol l = l.targets.items ≡ map (local_target l.resolution (elf_of l.object) l.input) (range_with_len 0 l.symbol)
