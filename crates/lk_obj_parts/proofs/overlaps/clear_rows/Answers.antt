use Rattle.std.specs.Prelude.{false}
use Rattle.std.proofs.Common.{sym, ◌∙◌}
use Rattle.lk_obj_parts.proofs.MarkSteps.{row_painted}
use Rattle.lk_obj_parts.proofs.overlaps.clear_rows.Goals as goal

pub loop-row-preserved : goal.loop-row-preserved
loop-row-preserved c =
    sym
    (row_painted
    false
    c.loop-row.marks
    c.clear_fields.new.marks
    c.args.bytes.now
    c.args.rows.now
    c.loop-row.row-index
    _
    c.loop-row-test.true
    c.clear_fields.ensures)
    ∙ c.loop-row.invariant
