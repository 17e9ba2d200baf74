use Rattle.std.specs.Prelude.{◌≡◌, ◌-◌, []}
use Rattle.lk_model.specs.RecordReaders.{read_among}
use Rattle.lk_records_read.specs.RowsNoted.{AreRowsNoted, read_row}
use Rattle.lk_records_read.proofs.section_rows.rows_of.Given as goal

abbrev pub invariant-loop-k : goal.invariant-loop-k
invariant-loop-k l =
    (read_among (read_row l.strtab) l.rows (l.count - l.k) l.cursor ≡ read_among (read_row l.strtab) [] l.count l.fn.cursor)
    × AreRowsNoted l.noted.keys.keys l.noted.addresses l.noted.offsets l.rows
