use Rattle.std.proofs.Common.{cond, sym, ap, ◌∙◌}
use Rattle.lk_model.specs.Keys.{same_piece}
use Rattle.lk_model.specs.declared.layouts.PieceId.{PieceId}
use Rattle.lk_model.specs.declared.layouts.PieceId.TheVariants as id
use Rattle.lk_piece_rows.specs.RowNumbers.{number_in}
use Rattle.lk_piece_rows.proofs.Numbers.{noted}
use Rattle.lk_piece_rows.proofs.numbering.note_row.Goals as goal

pub returns-in-Some-clause-numbers : goal.returns-in-Some-clause-numbers
returns-in-Some-clause-numbers c = λ n s.
    noted c.args.ranges.now c.args.numbers.now c.set_number.new.numbers c.in-Section.input c.in-Section.section n s c.in-Some.index c.args.number
    c.requires.laid (sym c.index_in.ensures ∙ c.in-Some.is) c.set_number.ensures
    ∙ ap (λ (p : PieceId). cond (same_piece p (id.Section n s)) c.args.number (number_in c.args.ranges.now c.args.numbers.now n s)) (sym c.in-Section.is)
