use Rattle.std.proofs.Common.{◌≤◌, ◌-◌, ◌^◌, drop, ap, sym, ◌∙◌, arith}
use Rattle.lk_task_board.specs.Trees.{is_marked_from}
use Rattle.lk_task_board.proofs.NodesBelow.{absent_below, absent_before, found_left, found_right, left_of, right_of}
use Rattle.lk_task_board.proofs.trees.+first_in.Goals as goal

pub returns-then-not-nodes-node : goal.returns-then-not-nodes-node
returns-then-not-nodes-node t c = absent_below c.args.room c.args.nodes.now c.args.node c.args.level c.args.start c.args.from c.requires c.if-not-nodes-node.true

pub first_in-requires : goal.first_in-requires
first_in-requires t c =
    let some : 1 ≤ c.args.level = omega arith in
    (omega arith, left_of c.args.room c.args.nodes.now c.args.node c.args.level c.args.start some c.requires)

pub returns-in-Some : goal.returns-in-Some
returns-in-Some t c =
    let some : 1 ≤ c.args.level = omega arith in
    found_left (is_marked_from (drop c.args.room c.args.nodes.now) c.args.from) c.args.start c.args.level c.in-Some.found some c.in-Some.ensures

pub first_in-requires-in-None : goal.first_in-requires-in-None
first_in-requires-in-None t c =
    let some : 1 ≤ c.args.level = omega arith in
    (omega arith, rw c.power-half.ensures.value (right_of c.args.room c.args.nodes.now c.args.node c.args.level c.args.start some c.requires))

pub returns-in-None : goal.returns-in-None
returns-in-None t c =
    let some : 1 ≤ c.args.level = omega arith in
    c.first_in-in-None.ensures ∙ rw c.power-half.ensures.value (found_right (is_marked_from (drop c.args.room c.args.nodes.now) c.args.from) c.args.start c.args.level some c.in-None.ensures)

pub returns-then-start-power : goal.returns-then-start-power
returns-then-start-power t c =
    absent_before (drop c.args.room c.args.nodes.now) c.args.start (2 ^ c.args.level) c.args.from (omega (arith, c.power.ensures.value))
