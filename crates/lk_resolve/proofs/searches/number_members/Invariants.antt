use Rattle.std.proofs.Common.{◌≡◌, ◌+◌, ◌++◌, drop}
use Rattle.lk_resolve.specs.Searches.{members_as, numbered_on}
use Rattle.lk_resolve.proofs.searches.number_members.Given as goal

abbrev pub invariant-loop-i : goal.invariant-loop-i
invariant-loop-i l = members_as l.members ++ numbered_on (l.first + l.i) (drop l.i l.summaries) ≡ numbered_on l.first l.summaries
