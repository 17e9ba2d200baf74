use Rattle.std.proofs.Common.{length}
use Rattle.lk_resolve.specs.NameSearches.{waiting_in}
use Rattle.lk_resolve.proofs.NameSearched.{Searching}
use Rattle.lk_resolve.proofs.name_searches.add_all.Given as goal

abbrev pub invariant-members : goal.invariant-members
invariant-members l = Searching l.definers l.initial.state l.state l.initial.turns l.turns l.initial.members l.members

abbrev pub decreases-members : goal.decreases-members
decreases-members l = length (waiting_in l.members)
