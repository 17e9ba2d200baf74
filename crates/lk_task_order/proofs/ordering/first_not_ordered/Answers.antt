use Rattle.std.proofs.Common.{◌≡◌, ◌+◌, ◌≤◌, ℕ, List, length, drop, get_or, sym, ap, ◌∙◌, subst, arith}
use Rattle.std.proofs.lemmas.List.{take_at}
use Rattle.lk_task_order.proofs.FirstFound.{waits_here, clashes_here, all_ordered, ordered_more}
use Rattle.lk_task_order.proofs.SlotsSeen.{seen_more}
use Rattle.lk_task_order.proofs.ordering.first_not_ordered.Goals as goal

pub returns-then-waits_ahead : goal.returns-then-waits_ahead
returns-then-waits_ahead c = waits_here c.args.needs.now c.loop-task.task (omega arith) (sym c.waits_ahead.ensures ∙ c.if-waits_ahead.true) c.loop-task.invariant.ordered

pub returns-then-clash : goal.returns-then-clash
returns-then-clash c = clashes_here c.args.needs.now c.loop-task.task (omega arith) (sym c.in_ok-clash.ensures.clash ∙ c.if-clash.true) c.loop-task.invariant.ordered

pub loop-task-preserved : goal.loop-task-preserved
loop-task-preserved c =
    let noted = rw c.need_at.ensures at c.in_ok-note.ensures in
    let size : length c.clashes.new.reached ≡ length c.loop-task.reached.items = omega (arith, c.clashes.auto.reached, c.deref_mut.ensures.len, c.loop-task.reached.ok.0) in
    let whole = take_at c.clashes.new.reached (drop (length c.clashes.new.reached) c.loop-task.reached.items) c.loop-task.reached.len (omega (arith, size, c.loop-task.reached.ok.0)) in
    record {
      reached_size = ap (λ (xs : List ℕ). length xs) whole ∙ size ∙ c.loop-task.invariant.reached_size;
      least = λ b. subst (λ (xs : List ℕ). get_or xs b 0 ≤ c.loop-task.task + 1) (sym whole) (c.clashes.ensures.least b);
      seen = seen_more _ _ _ _ _ _ _ c.loop-task.invariant.seen noted;
      ordered = ordered_more c.args.needs.now c.loop-task.task (sym c.waits_ahead.ensures ∙ c.if-waits_ahead.false) (sym c.in_ok-clash.ensures.clash ∙ c.if-clash.false) c.loop-task.invariant.ordered;
    }

pub returns : goal.returns
returns c = all_ordered c.args.needs.now c.loop-task.task (omega arith) c.loop-task.invariant.ordered
