use Rattle.std.proofs.Common.{◌≡◌, ◌++◌, map, drop}
use Rattle.lk_layout.specs.Walked.{walked}
use Rattle.lk_layout.proofs.sections.walk_groups.Given as goal

abbrev pub invariant-loop-number : goal.invariant-loop-number
invariant-loop-number l = l.walks.items ++ map walked (drop l.number l.kept.sections) ≡ map walked l.kept.sections
