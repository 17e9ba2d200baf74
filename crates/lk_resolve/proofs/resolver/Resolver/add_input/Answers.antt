use Rattle.std.proofs.Common.{◌∙◌}
use Rattle.lk_resolve.proofs.ResolverSteps.{input_goes_on, unspent}
use Rattle.lk_resolve.proofs.resolver.Resolver.add_input.Goals as goal

pub returns-clause-added : goal.returns-clause-added
returns-clause-added c =
    λ entry paths added e. input_goes_on c.self.inside.state c.add.new.self (record { number = c.args.input; summary = c.args.summary.now }) entry paths added c.in_ok-add.ensures (unspent c.self.inside.is_spent c.self.inside.state c.args.self.now c.self.view_is c.if-self.false ∙ e)
