use Rattle.std.proofs.Common.{◌∙◌}
use Rattle.lk_resolve.proofs.InputsAdded.{input_added}
use Rattle.lk_resolve.proofs.state.ResolverState.add.Goals as goal

pub returns : goal.returns
returns c =
    c.in_ok-add_left.ensures ∙ input_added _ c.args.self.now c.claim_input.new.claims c.in_ok-left.left.keys (record { number = c.args.input; summary = c.args.summary.now }) c.self.view_is c.in_ok-left.ensures.claimed c.in_ok-left.ensures.left
