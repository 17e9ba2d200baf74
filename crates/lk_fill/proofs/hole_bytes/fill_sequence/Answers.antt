use Rattle.std.proofs.Common.{length, min, ap, ◌∙◌}
use Rattle.lk_fill.proofs.HolesFilled.{sequence_is}
use Rattle.lk_fill.proofs.hole_bytes.fill_sequence.Goals as goal

pub returns : goal.returns
returns c =
    let n = length c.args.bytes.now in
    sequence_is c.args.row.now c.args.start n c.min-before.result c.gap_byte.result c.past_byte.result c.repeat-2.new.bytes c.repeat.new.bytes
    (c.min-before.ensures ∙ ap (λ k. min k n) c.saturating_sub.ensures)
    c.gap_byte.ensures c.past_byte.ensures c.repeat.ensures c.repeat-2.ensures
