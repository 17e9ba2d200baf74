use Rattle.lk_dyn_sizes.specs.DynamicRows.{numbers_where}
use Rattle.lk_dyn_sizes.proofs.RowsChosen.{chosen_next}
use Rattle.lk_dyn_tables.specs.WinnerNames.{has_winner}
use Rattle.lk_dyn_tables.proofs.winning_names.winners_among.Goals as goal

pub loop-number-preserved : goal.loop-number-preserved
loop-number-preserved c =
    chosen_next has_winner c.loop-number.numbers c.note_number.new.numbers (numbers_where has_winner 0 c.args.names.now) c.args.names.now c.loop-number.number
    c.in_ok-note_number.ensures c.loop-number.invariant
