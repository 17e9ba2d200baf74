use Rattle.std.proofs.Common.{◌≡◌, ◌++◌, drop}
use Rattle.lk_layout.specs.Grouping.{keys_in}
use Rattle.lk_layout.proofs.sections.group_keys.Given as goal

abbrev pub invariant-loop-number : goal.invariant-loop-number
invariant-loop-number l = l.keys ++ keys_in (drop l.number l.kept.sections) ≡ keys_in l.kept.sections
