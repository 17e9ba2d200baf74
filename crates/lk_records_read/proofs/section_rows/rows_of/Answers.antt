-- Row after row, each noted beside those before it.
use Rattle.std.specs.Prelude.{Err}
use Rattle.std.proofs.Common.{ap, subst, sym, ◌∙◌}
use Rattle.std.proofs.lemmas.Result.{err_from_is_err_and}
use Rattle.lk_records_read.specs.RowsNoted.{AreRowsNoted, read_row}
use Rattle.lk_records_read.proofs.RecordsInRow.{among_begun, among_done, among_next, among_refused}
use Rattle.lk_records_read.proofs.section_rows.rows_of.Goals as goal

pub loop-k-init : goal.loop-k-init
loop-k-init c = (
  among_begun (read_row c.args.strtab.now) _ c.args.count c.args.cursor.now c.in_ok-rows.ensures,
  subst (λ rows. AreRowsNoted c.no_rows-noted.result.keys.keys c.no_rows-noted.result.addresses c.no_rows-noted.result.offsets rows) (sym c.in_ok-rows.ensures) c.no_rows-noted.ensures,
)

pub returns-in_err-row : goal.returns-in_err-row
returns-in_err-row c =
    let p = err_from_is_err_and c.from_residual-in_err-row.result c.from_residual-in_err-row.ensures.1 in
    among_refused (read_row c.args.strtab.now) c.loop-k.rows c.loop-k.k c.args.count c.loop-k.cursor c.read_row.new.cursor c.read_row.new.cursor _ _ c.from_residual-in_err-row.result c.loop-k-test.true c.loop-k.invariant.0 (c.in_err-row.ensures c.loop-k.rows c.loop-k.invariant.1).0 (p.1 ∙ ap (λ s. Err s) p.2)

pub loop-k-preserved : goal.loop-k-preserved
loop-k-preserved c =
    let given = c.in_ok-row.ensures c.loop-k.rows c.loop-k.invariant.1 in (
      sym
          (among_next (read_row c.args.strtab.now) c.loop-k.rows c.push.new.self _ c.loop-k.k c.args.count c.loop-k.cursor c.read_row.new.cursor c.loop-k-test.true given.0 c.in_ok-push.ensures.pushed)
          ∙ c.loop-k.invariant.0,
      subst (λ rows. AreRowsNoted c.read_row.new.noted.keys.keys c.read_row.new.noted.addresses c.read_row.new.noted.offsets rows) (sym c.in_ok-push.ensures.pushed) given.1,
    )

pub returns : goal.returns
returns c =
    sym c.loop-k.invariant.0 ∙ among_done (read_row c.args.strtab.now) c.loop-k.rows c.loop-k.k c.args.count c.loop-k.cursor c.loop-k-test.false
