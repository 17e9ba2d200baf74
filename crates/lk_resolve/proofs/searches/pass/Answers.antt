use Rattle.std.proofs.Common.{sym, ap, ◌∙◌, arith, cond}
use Rattle.lk_resolve.specs.Searches.{member_as}
use Rattle.lk_resolve.specs.States.{with_input}
use Rattle.lk_resolve.proofs.Passes.{begun, ends, skips, takes}
use Rattle.lk_resolve.proofs.searches.pass.Goals as goal

pub loop-member-init : goal.loop-member-init
loop-member-init c = begun c.args.state.now c.args.waiting.now c.new-left.result c.new-left.ensures

-- a member that is not wanted goes on waiting
pub loop-member-preserved : goal.loop-member-preserved
loop-member-preserved c =
    skips c.args.state.now c.loop-member.state c.add_wanted.new.self c.args.waiting.now c.loop-member.member-index c.member-item.result c.loop-member.left c.push.new.self c.loop-member-test.true c.member-item.is
    (sym c.if-branch.false ∙ c.in_ok-add_wanted.ensures.taken)
    (c.in_ok-add_wanted.ensures.state ∙ ap (λ b. cond b (with_input c.loop-member.state (member_as c.member-item.result)) c.loop-member.state) c.if-branch.false)
    c.in_ok-push.ensures.pushed c.loop-member.invariant

-- one that is wanted is added
pub loop-member-preserved-then-branch : goal.loop-member-preserved-then-branch
loop-member-preserved-then-branch c =
    takes c.args.state.now c.loop-member.state c.add_wanted.new.self c.args.waiting.now c.loop-member.member-index c.member-item.result c.loop-member.left c.loop-member-test.true c.member-item.is
    (sym c.if-branch.true ∙ c.in_ok-add_wanted.ensures.taken)
    (c.in_ok-add_wanted.ensures.state ∙ ap (λ b. cond b (with_input c.loop-member.state (member_as c.member-item.result)) c.loop-member.state) c.if-branch.true)
    c.loop-member.invariant

pub returns-clause-ends : goal.returns-clause-ends
returns-clause-ends c =
    ends c.args.state.now c.loop-member.state c.args.waiting.now c.loop-member.member-index c.loop-member.left (omega arith) (omega arith) c.loop-member.invariant
