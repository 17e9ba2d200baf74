-- A row's key, its addresses and its bytes of the file, each beside those of the rows before it.
use Rattle.std.specs.Prelude.{false, true, Ok}
use Rattle.std.proofs.Common.{rules}
use Rattle.lk_model.specs.RecordRefusals.{has_own_addresses}
use Rattle.lk_model.specs.SectionKeys.{in_file}
use Rattle.lk_records_read.specs.RowsNoted.{IsKeyNoted}
use Rattle.lk_records_read.specs.TakenRanges.{CountedAnswers}
use Rattle.lk_records_read.proofs.RowsBeside.{addresses_shared, key_again, row_noted}
use Rattle.lk_records_read.proofs.rows_noted.note_row.Goals as goal

pub returns-then-not-branch : goal.returns-then-not-branch
returns-then-not-branch c =
    let again : IsKeyNoted c.args.noted.now.keys.keys c.args.row.now.key false c.note_key.new.keys.keys = search rules in
    λ before noted.
    key_again before c.args.row.now c.args.noted.now.keys.keys c.note_key.new.keys.keys c.args.noted.now.addresses c.args.noted.now.addresses c.args.noted.now.offsets c.args.noted.now.offsets noted again

pub returns-then-not-branch-2 : goal.returns-then-not-branch-2
returns-then-not-branch-2 c =
    let shared : CountedAnswers (has_own_addresses c.args.row.now) c.args.noted.now.addresses c.args.row.now.addr c.args.row.now.room (Ok false) c.take_where.new.ranges = search rules in
    λ before noted.
    addresses_shared before c.args.row.now c.args.noted.now.keys.keys c.note_key.new.keys.keys c.args.noted.now.addresses c.take_where.new.ranges c.args.noted.now.offsets c.args.noted.now.offsets noted shared

pub returns : goal.returns
returns c =
    let first : IsKeyNoted c.args.noted.now.keys.keys c.args.row.now.key true c.note_key.new.keys.keys = search rules in
    let free : CountedAnswers (has_own_addresses c.args.row.now) c.args.noted.now.addresses c.args.row.now.addr c.args.row.now.room (Ok true) c.take_where.new.ranges = search rules in
    let last : CountedAnswers (in_file c.args.row.now.key.class) c.args.noted.now.offsets c.args.row.now.offset c.args.row.now.room c.take_where-2.result c.take_where-2.new.ranges = search rules in
    λ before noted.
    row_noted before c.args.row.now c.args.noted.now.keys.keys c.note_key.new.keys.keys c.args.noted.now.addresses c.take_where.new.ranges c.args.noted.now.offsets c.take_where-2.new.ranges noted c.take_where-2.result first free last
