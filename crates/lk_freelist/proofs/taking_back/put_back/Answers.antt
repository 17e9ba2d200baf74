use Rattle.std.proofs.Common.{◌∙◌, arith}
use Rattle.lk_freelist.proofs.Joining.{had_room, reached_at, read_below, put_last, put_behind, put_touching, put_apart}
use Rattle.lk_freelist.proofs.taking_back.put_back.Goals as goal

pub returns-then-index-len-clause-put : goal.returns-then-index-len-clause-put
returns-then-index-len-clause-put c =
    c.push-done.ensures.items
    ∙ had_room _ _ _ (c.push-done.ensures.succeeds c.requires.room)
    ∙ put_last c.args.holes.now.items c.as_slice.result.now c.args.start c.args.size c.first_reaching-index.result c.as_slice.ensures.value (omega arith) c.first_reaching-index.ensures.below

pub overflow_add-hole : goal.overflow_add-hole
overflow_add-hole c =
    let below = read_below c.args.holes.now.items c.first_reaching-index.result c.index-hole.result.now c.requires.holes (omega arith) c.index-hole.ensures in
    omega (arith, below)

pub overflow_add-size : goal.overflow_add-size
overflow_add-size c =
    let below = read_below c.args.holes.now.items c.first_reaching-index.result c.index-hole.result.now c.requires.holes (omega arith) c.index-hole.ensures in
    omega (arith, below)

pub returns-then-hole-start-clause-put : goal.returns-then-hole-start-clause-put
returns-then-hole-start-clause-put c =
    let reached = reached_at c.args.holes.now.items c.as_slice.result.now c.args.start c.first_reaching-index.result c.index-hole.result.now c.as_slice.ensures.value (omega arith) c.index-hole.ensures c.first_reaching-index.ensures.below c.first_reaching-index.ensures.reaches in
    c.join.ensures.put ∙ put_behind c.args.size reached c.if-hole-start.true

pub returns-then-start-size-clause-put : goal.returns-then-start-size-clause-put
returns-then-start-size-clause-put c =
    let reached = reached_at c.args.holes.now.items c.as_slice.result.now c.args.start c.first_reaching-index.result c.index-hole.result.now c.as_slice.ensures.value (omega arith) c.index-hole.ensures c.first_reaching-index.ensures.below c.first_reaching-index.ensures.reaches in
    put_touching c.args.size reached c.if-hole-start.false c.if-start-size.true

pub returns-else-start-size-clause-put : goal.returns-else-start-size-clause-put
returns-else-start-size-clause-put c =
    let reached = reached_at c.args.holes.now.items c.as_slice.result.now c.args.start c.first_reaching-index.result c.index-hole.result.now c.as_slice.ensures.value (omega arith) c.index-hole.ensures c.first_reaching-index.ensures.below c.first_reaching-index.ensures.reaches in
    c.insert-done.ensures.items
    ∙ had_room _ _ _ (c.insert-done.ensures.succeeds c.requires.room)
    ∙ put_apart c.args.size reached c.if-hole-start.false c.if-start-size.false
