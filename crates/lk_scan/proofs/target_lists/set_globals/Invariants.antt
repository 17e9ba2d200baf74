use Rattle.std.proofs.Common.{◌≡◌, drop}
use Rattle.lk_scan.specs.SymbolTargets.{with_globals}
use Rattle.lk_scan.proofs.target_lists.set_globals.Given as goal

abbrev pub invariant-loop-number : goal.invariant-loop-number
invariant-loop-number l = l.targets ≡ with_globals l.names l.input (drop l.number l.globals) l.initial.targets
