use Rattle.lk_dyn_sizes.specs.DynamicRows.{is_copied_row, numbers_where}
use Rattle.lk_dyn_sizes.proofs.RowsChosen.{chosen_next}
use Rattle.lk_dyn_sizes.proofs.dynamic_rows.copied_among.Goals as goal

pub loop-number-preserved : goal.loop-number-preserved
loop-number-preserved c =
    chosen_next (is_copied_row c.args.copied.now.keys) c.loop-number.numbers c.note_copied.new.numbers (numbers_where (is_copied_row c.args.copied.now.keys) 0 c.args.names.now) c.args.names.now c.loop-number.number
    c.in_ok-note_copied.ensures c.loop-number.invariant
