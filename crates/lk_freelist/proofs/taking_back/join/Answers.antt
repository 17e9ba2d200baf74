use Rattle.std.proofs.Common.{◌+◌, ◌∙◌, ap, arith}
use Rattle.std.proofs.Math.ListN.{set}
use Rattle.lk_freelist.proofs.Joining.{read_below, joined_last, joined_none, joined_next}
use Rattle.lk_freelist.proofs.taking_back.join.Goals as goal
use Rattle.lk_freelist.proofs.taking_back.join.Goals.{then-next-len+else-hole-behind, else-next-len}

pub overflow_add-hole-then-hole-behind : goal.overflow_add-hole-then-hole-behind
overflow_add-hole-then-hole-behind c =
    let below = read_below c.args.holes.now.items (c.args.index + 1) c.index-behind.result.now c.requires.holes (omega arith) c.index-behind.ensures in
    omega (arith, below)

pub returns-then-hole-behind-clause-put : goal.returns-then-hole-behind-clause-put
returns-then-hole-behind-clause-put c =
    ap (λ holes. set holes c.args.index (record { start = c.args.hole.start; length = c.args.hole.length + c.index-behind.result.now.length })) c.remove.ensures.items
    ∙ joined_next c.args.holes.now.items c.args.index c.args.hole c.index-behind.result.now (omega arith) c.index-behind.ensures c.if-hole-behind.true

pub returns-clause-put : goal.returns-clause-put
returns-clause-put c = elim c.if-next-len.branch [
  | then-next-len+else-hole-behind w ↦ joined_none c.args.holes.now.items c.args.index c.args.hole w.index-behind.result.now (omega arith) w.index-behind.ensures w.if-hole-behind.false
  | else-next-len w ↦ joined_last c.args.holes.now.items c.args.index c.args.hole (omega arith) (omega arith)
]
