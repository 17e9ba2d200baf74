use Rattle.std.proofs.Common.{◌∙◌}
use Rattle.lk_resolve.proofs.ResolverSteps.{paths_taken, unspent}
use Rattle.lk_resolve.proofs.resolver.Resolver.with_paths.Goals as goal

pub returns-clause-taken : goal.returns-clause-taken
returns-clause-taken c =
    λ entry before added e. paths_taken c.self.inside.state c.set_paths.new.self entry before c.args.paths.now added c.in_ok-set_paths.ensures (unspent c.self.inside.is_spent c.self.inside.state c.args.self.now c.self.view_is c.if-self.false ∙ e)
