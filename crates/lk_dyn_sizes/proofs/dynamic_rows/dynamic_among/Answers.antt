use Rattle.lk_dyn_sizes.specs.DynamicRows.{is_dynamic_row, numbers_where}
use Rattle.lk_dyn_sizes.proofs.RowsChosen.{chosen_next}
use Rattle.lk_dyn_sizes.proofs.dynamic_rows.dynamic_among.Goals as goal

pub loop-number-preserved : goal.loop-number-preserved
loop-number-preserved c =
    chosen_next (is_dynamic_row c.args.needed.now.keys c.args.all) c.loop-number.numbers c.note_dynamic.new.numbers (numbers_where (is_dynamic_row c.args.needed.now.keys c.args.all) 0 c.args.names.now) c.args.names.now c.loop-number.number
    c.in_ok-note_dynamic.ensures c.loop-number.invariant
