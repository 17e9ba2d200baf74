use Rattle.std.proofs.Common.{◌≡◌, length, ap, ◌∙◌, subst, arith}
use Rattle.std.specs.List.{AllByRecursion}
use Rattle.lk_fill.specs.Filled.{fill_stretches, written, IsWritable}
use Rattle.lk_fill.proofs.RowsWritten.{holes_at, holes_there, rows_more}
use Rattle.lk_fill.proofs.writing.write_rows.Goals as goal

pub bounds-found-number : goal.bounds-found-number
bounds-found-number c = holes_there c.args.placement.now c.as_slice-rows.result.now c.args.found.now c.loop-number.number c.as_slice-rows.ensures c.requires c.loop-number-test.true

pub loop-number-preserved : goal.loop-number-preserved
loop-number-preserved c =
    let place = c.args.placement.now in
    let n = c.loop-number.number in
    let row = c.index-rows-number.result in
    let holes = c.as_slice.result.now in
    let found = holes_at place c.args.found.now n c.index-found-number.result c.requires (omega (arith, ap length c.as_slice-rows.ensures)) c.index-found-number.is in
    let same : length c.args.image.now ≡ length c.loop-number.image = omega arith in
    rows_more place (length c.args.image.now) n c.as_slice-rows.result.now row holes c.loop-number.image c.write_row.new.image (written c.args.image.now (fill_stretches place))
    c.as_slice-rows.ensures c.loop-number-test.true c.index-rows-number.is
    (c.as_slice.ensures ∙ found)
    (λ all. c.write_row.ensures (λ stored. subst (λ size. AllByRecursion (IsWritable row size) holes) same (all stored)))
    c.loop-number.invariant
