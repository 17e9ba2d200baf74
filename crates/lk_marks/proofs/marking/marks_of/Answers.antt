use Rattle.lk_marks.proofs.MarksMade.{marks_made}
use Rattle.std.proofs.Common.{rules}
use Rattle.lk_marks.proofs.marking.marks_of.Goals as goal

pub returns : goal.returns
returns c =
    marks_made c.args.numbers.now c.args.count c.loop-number.number-index c.loop-number.marks.items (search (rules)) c.loop-number.invariant
