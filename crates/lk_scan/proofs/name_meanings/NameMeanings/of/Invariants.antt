use Rattle.std.proofs.Common.{◌≡◌, false, map}
use Rattle.std.specs.List.{range_with_len}
use Rattle.lk_scan.specs.Targets.{name_target}
use Rattle.lk_scan.proofs.name_meanings.NameMeanings.of.Given as goal

abbrev pub invariant-loop-number : goal.invariant-loop-number
invariant-loop-number l = l.targets.items ≡ map (λ n. name_target l.names n false) (range_with_len 0 l.number)
