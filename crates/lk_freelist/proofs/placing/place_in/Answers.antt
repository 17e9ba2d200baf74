use Rattle.std.proofs.Common.{sym, arith, ◌∙◌}
use Rattle.lk_model.proofs.FirstFits.{near_too_long}
use Rattle.lk_freelist.proofs.Fitting.{near_at, taken_near, last_above, taken_last, taken_nowhere}
use Rattle.lk_freelist.proofs.placing.place_in.Goals as goal
use Rattle.lk_freelist.proofs.placing.place_in.Goals.{else-last-align-eq0-via-then-last-align-eq0+else-can_fill-2, else-last-align-eq0-via-else-last-align-eq0}

pub returns-in_err-near : goal.returns-in_err-near
returns-in_err-near c =
    c.from_residual.ensures ∙ sym (near_too_long c.args.hole c.args.least c.args.size c.args.align c.requires.positive (omega (arith, c.in_err-near.ensures)))

pub returns-in_err-reached : goal.returns-in_err-reached
returns-in_err-reached c =
    c.from_residual-in_err-reached.ensures
    ∙ sym (near_too_long c.args.hole c.args.least c.args.size c.args.align c.requires.positive (omega (arith, c.in_ok-near.ensures.1, c.in_err-reached.ensures)))

pub returns-then-end-reached : goal.returns-then-end-reached
returns-then-end-reached c =
    sym (near_too_long c.args.hole c.args.least c.args.size c.args.align c.requires.positive (omega (arith, c.in_ok-near.ensures.1, c.in_ok-reached.ensures.1)))

pub returns-then-can_fill : goal.returns-then-can_fill
returns-then-can_fill c =
    let at = near_at c.args.hole c.args.least c.args.size c.args.align c.in_ok-near.near c.in_ok-reached.reached c.requires.positive c.in_ok-near.ensures.1 c.in_ok-reached.ensures.1 c.if-end-reached.false in
    sym (taken_near at (sym c.can_fill.ensures ∙ c.if-can_fill.true))

pub overflow_sub-last-then-last-align-eq0 : goal.overflow_sub-last-then-last-align-eq0
overflow_sub-last-then-last-align-eq0 c =
    let at = near_at c.args.hole c.args.least c.args.size c.args.align c.in_ok-near.near c.in_ok-reached.reached c.requires.positive c.in_ok-near.ensures.1 c.in_ok-reached.ensures.1 c.if-end-reached.false in
    last_above at

pub returns-then-can_fill-2 : goal.returns-then-can_fill-2
returns-then-can_fill-2 c =
    let at = near_at c.args.hole c.args.least c.args.size c.args.align c.in_ok-near.near c.in_ok-reached.reached c.requires.positive c.in_ok-near.ensures.1 c.in_ok-reached.ensures.1 c.if-end-reached.false in
    sym (taken_last at (sym c.can_fill.ensures ∙ c.if-can_fill.false) c.if-last-align-eq0.true (sym c.can_fill-then-last-align-eq0.ensures ∙ c.if-can_fill-2.true))

pub returns : goal.returns
returns c =
    let at = near_at c.args.hole c.args.least c.args.size c.args.align c.in_ok-near.near c.in_ok-reached.reached c.requires.positive c.in_ok-near.ensures.1 c.in_ok-reached.ensures.1 c.if-end-reached.false in
    sym (taken_nowhere at (sym c.can_fill.ensures ∙ c.if-can_fill.false)
    (λ multiple. elim c.else-last-align-eq0.branch [
      | else-last-align-eq0-via-then-last-align-eq0+else-can_fill-2 w ↦ sym w.can_fill-then-last-align-eq0.ensures ∙ w.if-can_fill-2.false
      | else-last-align-eq0-via-else-last-align-eq0 w ↦ absurd (omega (arith, w.if-last-align-eq0.false, multiple))
    ]))
