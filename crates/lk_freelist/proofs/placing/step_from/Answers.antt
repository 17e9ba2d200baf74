use Rattle.std.proofs.Common.{◌<◌, ◌+◌, ◌^◌, ℕ, subst, sym, arith, ◌∙◌, refl}
use Rattle.std.specs.Option.{SomeIff}
use Rattle.lk_model.proofs.Multiples.{round_up_above}
use Rattle.lk_freelist.proofs.Steps.{rounded_below_step, step_near, step_far}
use Rattle.lk_freelist.proofs.placing.step_from.Goals as goal

pub returns-in_err-next : goal.returns-in_err-next
returns-in_err-next c =
    let below = rounded_below_step c.args.least c.args.start c.args.align c.requires in
    rw c.from_residual.ensures (λ small. c.in_err-next.ensures (omega (arith, below, small)))

pub returns-then-can_fill : goal.returns-then-can_fill
returns-then-can_fill c =
    let near = step_near c.args.least c.args.start c.args.align c.in_ok-next.next c.in_ok-next.ensures.1 (sym c.can_fill.ensures ∙ c.if-can_fill.true) in
    (omega (arith, near, c.in_ok-next.ensures.0, c.in_ok-next.ensures.1), sym near)

pub returns-in_err-checked_add : goal.returns-in_err-checked_add
returns-in_err-checked_add c =
    let far = step_far c.args.least c.args.start c.args.align c.in_ok-next.next (c.args.start + c.args.least) c.in_ok-next.ensures.1 (sym c.can_fill.ensures ∙ c.if-can_fill.false) refl in
    let above = round_up_above (c.args.start + c.args.least) c.args.align c.requires in
    rw c.from_residual-in_err-checked_add.ensures (λ small. c.in_err-checked_add.ensures (omega (arith, far, above, small)))

pub returns : goal.returns
returns c =
    let far = step_far c.args.least c.args.start c.args.align c.in_ok-next.next c.in_ok-checked_add.field-0 c.in_ok-next.ensures.1 (sym c.can_fill.ensures ∙ c.if-can_fill.false) c.in_ok-checked_add.ensures.1 in
    subst (λ (m : ℕ). SomeIff c.round_up-2.result (m < 2 ^ 64) m) (sym far) c.round_up-2.ensures
