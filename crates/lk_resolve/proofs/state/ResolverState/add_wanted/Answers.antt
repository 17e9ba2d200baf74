use Rattle.std.proofs.Common.{sym, ◌∙◌}
use Rattle.lk_resolve.proofs.InputsAdded.{input_added, wants_found}
use Rattle.lk_resolve.proofs.state.ResolverState.add_wanted.Goals as goal

pub returns-then-defines_wanted-clause-taken : goal.returns-then-defines_wanted-clause-taken
returns-then-defines_wanted-clause-taken c =
    sym c.if-defines_wanted.true
    ∙ wants_found _ c.args.self.now c.in_ok-left.left.keys (record { number = c.args.input; summary = c.args.summary.now }) c.defines_wanted.result c.as_slice-symbols.result.now c.self.view_is c.in_ok-left.ensures.left c.as_slice-symbols.ensures c.defines_wanted.ensures

pub returns-then-defines_wanted-clause-state : goal.returns-then-defines_wanted-clause-state
returns-then-defines_wanted-clause-state c =
    c.in_ok-add_left.ensures ∙ input_added _ c.args.self.now c.claim_input.new.claims c.in_ok-left.left.keys (record { number = c.args.input; summary = c.args.summary.now }) c.self.view_is c.in_ok-left.ensures.claimed c.in_ok-left.ensures.left

pub returns-clause-taken : goal.returns-clause-taken
returns-clause-taken c =
    sym c.if-defines_wanted.false
    ∙ wants_found _ c.args.self.now c.in_ok-left.left.keys (record { number = c.args.input; summary = c.args.summary.now }) c.defines_wanted.result c.as_slice-symbols.result.now c.self.view_is c.in_ok-left.ensures.left c.as_slice-symbols.ensures c.defines_wanted.ensures
