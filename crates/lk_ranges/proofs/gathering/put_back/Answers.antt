use Rattle.std.proofs.Common.{◌∙◌, arith}
use Rattle.lk_ranges.proofs.Gathered.{had_room, handed_parted}
use Rattle.lk_ranges.proofs.gathering.put_back.Goals as goal

pub returns-clause-put : goal.returns-clause-put
returns-clause-put c =
    let parted = rw (c.as_slice.ensures.value, c.start.ensures.start) at c.first_after-at.ensures.parted in
    c.insert-done.ensures.items
    ∙ had_room _ _ _ (c.insert-done.ensures.succeeds c.requires.room)
    ∙ handed_parted c.args.list.now.items c.args.range c.first_after-at.result (omega arith) parted
