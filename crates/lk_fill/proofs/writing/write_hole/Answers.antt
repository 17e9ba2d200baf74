use Rattle.lk_fill.proofs.HolesWritten.{hole_written}
use Rattle.lk_fill.proofs.writing.write_hole.Goals as goal

pub returns : goal.returns
returns c = λ can.
    hole_written c.args.row.now c.args.hole c.args.image.now c.fill_hole.new.bytes c.in-Some.start c.in-Some-checked_add.end can c.in-Some.ensures.1 c.in-Some-checked_add.ensures.1 c.if-end-image.false c.fill_hole.ensures c.fill_hole.auto.bytes
