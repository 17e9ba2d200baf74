use Rattle.std.proofs.Common.{◌∙◌}
use Rattle.lk_resolve.specs.Searches.{numbered_on}
use Rattle.lk_resolve.proofs.ResolverSteps.{group_goes_on, unspent}
use Rattle.lk_resolve.proofs.resolver.Resolver.add_members.Goals as goal

pub returns-clause-added : goal.returns-clause-added
returns-clause-added c =
    λ entry paths added e. group_goes_on c.self.inside.state c.add_members.new.state (numbered_on c.args.first c.args.members.now) entry paths added
    c.in_ok-add_members.ensures
    (unspent c.self.inside.is_spent c.self.inside.state c.args.self.now c.self.view_is c.if-self.false ∙ e)
