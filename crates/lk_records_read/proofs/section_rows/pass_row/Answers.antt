use Rattle.std.specs.Prelude.{◌≡◌, false, true}
use Rattle.std.proofs.Common.{rules}
use Rattle.lk_records_read.specs.RowsNoted.{is_row}
use Rattle.lk_records_read.proofs.RowsRead.{row_never, row_passed}
use Rattle.lk_records_read.proofs.section_rows.pass_row.Goals as goal

pub returns-then-not-is_row : goal.returns-then-not-is_row
returns-then-not-is_row c =
    let never : is_row c.args.row.now ≡ false = search rules in
    λ before noted. row_never c.args.row.now before never

pub returns : goal.returns
returns c =
    let fine : is_row c.args.row.now ≡ true = search rules in
    λ before noted.
    row_passed before c.args.row.now c.note_row.result c.note_row.new.noted.keys.keys c.note_row.new.noted.addresses c.note_row.new.noted.offsets fine (c.note_row.ensures before noted)
