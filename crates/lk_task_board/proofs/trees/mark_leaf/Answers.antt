use Rattle.std.proofs.Common.{◌∙◌}
use Rattle.std.proofs.lemmas.List.{drop-set-add}
use Rattle.lk_task_board.proofs.trees.mark_leaf.Goals as goal

pub returns-clause-leaves : goal.returns-clause-leaves
returns-clause-leaves c = c.raise.ensures.leaves ∙ drop-set-add c.args.room c.args.nodes.now c.args.number c.args.marked
