use Rattle.std.proofs.Common.{◌∙◌, arith}
use Rattle.lk_task_order.proofs.BlockersSwept.{all_swept, all_direct}
use Rattle.lk_task_order.proofs.sweeping.is_after_all.Goals as goal

pub returns-then-low-task-clause-after : goal.returns-then-low-task-clause-after
returns-then-low-task-clause-after c = all_direct c.args.needs.now c.args.task c.lowest_left-low.result c.args.before.now c.if-low-task.true c.requires.before c.lowest_left-low.ensures.direct

pub returns-clause-after : goal.returns-clause-after
returns-clause-after c =
    c.are_reached.ensures ∙ all_swept c.args.needs.now c.args.task c.lowest_left-low.result c.sweep.new.reached c.args.before.now c.requires.ordered c.requires.there c.requires.before c.lowest_left-low.ensures.direct
    (λ t b r. omega (arith, c.requires.releases t b r, c.sweep.auto.reached)) c.sweep.ensures
