use Rattle.std.proofs.Common.{length}
use Rattle.lk_resolve.proofs.NameSearched.{Turned}
use Rattle.lk_resolve.proofs.name_searches.add_next.Given as goal

abbrev pub invariant-turns : goal.invariant-turns
invariant-turns l = Turned l.initial.state l.state l.initial.turns l.turns l.initial.members l.members

abbrev pub decreases-turns : goal.decreases-turns
decreases-turns l = length l.turns.due.keys
