use Rattle.std.proofs.Common.{ℕ, List, sym, ap, ◌∙◌}
use Rattle.lk_task_runs.specs.Below.{has}
use Rattle.lk_task_order.proofs.SlotsSeen.{gathered_shares, clash_is}
use Rattle.lk_task_order.proofs.ordering.clashes.Goals as goal

pub is_after_all-after-requires-clause-before : goal.is_after_all-after-requires-clause-before
is_after_all-after-requires-clause-before c = λ t e.
    let gathered = rw c.need_at.ensures at c.in_ok-gather.ensures in
    (gathered_shares c.args.needs.now c.args.slots c.args.task c.args.writers.now c.args.readers.now c.requires.seen c.requires.reads c.requires.writes t (sym (gathered t) ∙ ap (λ (xs : List ℕ). has t xs) (sym c.as_slice.ensures.value) ∙ e)).0

pub returns-clause-clash : goal.returns-clause-clash
returns-clause-clash c =
    let gathered = rw c.need_at.ensures at c.in_ok-gather.ensures in
    clash_is c.args.needs.now c.args.slots c.args.task c.args.writers.now c.args.readers.now c.as_slice.result.now c.requires.seen c.requires.reads c.requires.writes c.requires.there c.requires.ordered c.requires.lower
    (λ t. ap (λ (xs : List ℕ). has t xs) c.as_slice.ensures.value ∙ gathered t) c.is_after_all-after.result c.is_after_all-after.ensures.after
