use Rattle.std.proofs.Common.{◌≡◌}
use Rattle.lk_resolve.specs.Searches.{members_as, numbered_on, searched}
use Rattle.lk_resolve.proofs.searches.add_members.Given as goal

abbrev pub invariant-passes : goal.invariant-passes
invariant-passes l = searched l.state (members_as l.waiting) ≡ searched l.initial.state (numbered_on l.first l.summaries)
