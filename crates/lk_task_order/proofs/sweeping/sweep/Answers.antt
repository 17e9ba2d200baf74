use Rattle.std.proofs.Common.{◌≡◌, ℕ, suc, ◌+◌, ◌-◌, ◌==◌, true, false, get_or, sym, ◌∙◌, subst, arith}
use Rattle.lk_task_runs.specs.Phases.{need}
use Rattle.lk_task_order.specs.Sweeps.{AreSwept, swept, passes_token}
use Rattle.lk_task_order.proofs.BlockersSwept.{passes_same, mark_more, mark_passed}
use Rattle.lk_task_order.proofs.sweeping.sweep.Goals as goal

pub loop-next-preserved-then-is_reached : goal.loop-next-preserved-then-is_reached
loop-next-preserved-then-is_reached c =
    let ns = c.args.needs.now in
    let j = c.args.task - c.loop-next.next in
    let v = c.loop-next.next - 1 in
    let here : v ≡ c.args.task - suc j = omega arith in
    let step : suc j ≡ c.args.task - v = omega arith in
    let marks = rw c.need_at-one.ensures at c.is_reached.ensures in
    let passes : passes_token (swept ns c.args.task j) (need ns v).releases ≡ true =
    sym (passes_same (λ (b : ℕ). get_or c.loop-next.reached b 0 == c.args.task + 1) (swept ns c.args.task j) (need ns v).releases (λ b r. c.loop-next.invariant.swept.marks b (omega (arith, c.requires.releases v b r, c.loop-next.invariant.size)))) ∙ sym marks ∙ c.if-is_reached.true in
    let now = rw c.need_at-one.ensures at c.reach-then-is_reached.ensures in
    let more = mark_more ns c.args.task j (c.args.task + 1) v c.loop-next.reached c.reach-then-is_reached.new.reached here c.reach-then-is_reached.auto.reached passes now c.loop-next.invariant.swept in
    record {
      size = c.reach-then-is_reached.auto.reached ∙ c.loop-next.invariant.size;
      within = omega arith;
      above = omega arith;
      swept = subst (λ (k : ℕ). AreSwept ns c.args.task k (c.args.task + 1) c.reach-then-is_reached.new.reached) step more;
    }

pub loop-next-preserved : goal.loop-next-preserved
loop-next-preserved c =
    let ns = c.args.needs.now in
    let j = c.args.task - c.loop-next.next in
    let v = c.loop-next.next - 1 in
    let here : v ≡ c.args.task - suc j = omega arith in
    let step : suc j ≡ c.args.task - v = omega arith in
    let marks = rw c.need_at-one.ensures at c.is_reached.ensures in
    let passes : passes_token (swept ns c.args.task j) (need ns v).releases ≡ false =
    sym (passes_same (λ (b : ℕ). get_or c.loop-next.reached b 0 == c.args.task + 1) (swept ns c.args.task j) (need ns v).releases (λ b r. c.loop-next.invariant.swept.marks b (omega (arith, c.requires.releases v b r, c.loop-next.invariant.size)))) ∙ sym marks ∙ c.if-is_reached.false in
    record {
      size = c.loop-next.invariant.size;
      within = omega arith;
      above = omega arith;
      swept = subst (λ (k : ℕ). AreSwept ns c.args.task k (c.args.task + 1) c.loop-next.reached) step (mark_passed ns c.args.task j (c.args.task + 1) v c.loop-next.reached here passes c.loop-next.invariant.swept);
    }

pub returns : goal.returns
returns c =
    let same : c.args.task - c.loop-next.next ≡ c.args.task - c.args.low = omega arith in
    subst (λ (k : ℕ). AreSwept c.args.needs.now c.args.task k (c.args.task + 1) c.loop-next.reached) same c.loop-next.invariant.swept
