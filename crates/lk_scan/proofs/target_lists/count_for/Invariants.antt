use Rattle.std.proofs.Common.{◌≡◌, ◌≤◌, ◌^◌, fold, drop}
use Rattle.lk_scan.specs.SymbolTargets.{count_for, with_number}
use Rattle.lk_scan.proofs.target_lists.count_for.Given as goal

abbrev pub invariant-loop-global : goal.invariant-loop-global
invariant-loop-global l = (fold with_number l.count (drop l.global-index l.globals) ≡ count_for l.globals) × (l.count ≤ 2 ^ 32)
