use Rattle.std.specs.Prelude.{true, refl}
use Rattle.std.proofs.Common.{sym, ◌∙◌}
use Rattle.lk_obj_parts.proofs.MarkSteps.{no_row_here, row_here, row_painted}
use Rattle.lk_obj_parts.proofs.overlaps.mark_rows.Goals as goal

pub returns-in-Some-clause-fault : goal.returns-in-Some-clause-fault
returns-in-Some-clause-fault c =
    sym
    (row_here
    c.loop-row.marks
    c.args.bytes.now
    c.args.rows.now
    c.loop-row.row-index
    _
    c.in-Some.fault
    c.loop-row-test.true
    (sym c.in-Some.ensures.fault))
    ∙ c.loop-row.invariant.fault

pub loop-row-preserved : goal.loop-row-preserved
loop-row-preserved c = record {
  fault =
      sym
      (no_row_here
      c.loop-row.marks
      c.mark_fields.new.marks
      c.args.bytes.now
      c.args.rows.now
      c.loop-row.row-index
      _
      c.loop-row-test.true
      (sym c.in_default.ensures.fault)
      (c.in_default.ensures.marked refl))
      ∙ c.loop-row.invariant.fault;
  marked =
      sym
      (row_painted
      true
      c.loop-row.marks
      c.mark_fields.new.marks
      c.args.bytes.now
      c.args.rows.now
      c.loop-row.row-index
      _
      c.loop-row-test.true
      (c.in_default.ensures.marked refl))
      ∙ c.loop-row.invariant.marked;
}
