use Rattle.std.proofs.Common.{◌∙◌}
use Rattle.lk_resolve.proofs.ResolverSteps.{unspent}
use Rattle.lk_resolve.proofs.ResolutionFound.{state_settles}
use Rattle.lk_resolve.proofs.resolver.Resolver.settle.Goals as goal

pub returns-clause-resolution : goal.returns-clause-resolution
returns-clause-resolution c =
    λ entry paths added e. state_settles c.self.inside.state c.settle_state.result entry paths added c.settle_state.ensures (unspent c.self.inside.is_spent c.self.inside.state c.args.self c.self.view_is c.if-is_spent.false ∙ e)
