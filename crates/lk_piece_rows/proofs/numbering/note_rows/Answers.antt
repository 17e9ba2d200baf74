use Rattle.std.proofs.Common.{◌-◌, ◌∙◌, arith}
use Rattle.lk_piece_rows.proofs.Numbers.{row_noted, row_reached}
use Rattle.lk_piece_rows.proofs.numbering.note_rows.Goals as goal

pub note_row-requires-clause-counted : goal.note_row-requires-clause-counted
note_row-requires-clause-counted c = λ n. row_reached c.args.rows.now (c.loop-number.number - 1) _ n _ (omega arith) (c.requires.counted n)

pub loop-number-preserved : goal.loop-number-preserved
loop-number-preserved c = record {
  count = c.note_row.ensures.length ∙ c.loop-number.invariant.count;
  found =
      row_noted c.args.ranges.now c.args.rows.now c.loop-number.number (c.loop-number.number - 1) _ c.loop-number.numbers c.note_row.new.numbers
      (omega arith) (omega arith) c.loop-number.invariant.found c.note_row.ensures.numbers;
}
