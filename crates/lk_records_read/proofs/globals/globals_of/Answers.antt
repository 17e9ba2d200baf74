use Rattle.std.specs.Prelude.{Err}
use Rattle.std.proofs.Common.{ap, sym, ◌∙◌}
use Rattle.std.proofs.lemmas.Result.{err_from_is_err_and}
use Rattle.lk_records_read.specs.InputParts.{read_global}
use Rattle.lk_records_read.proofs.RecordsInRow.{among_done, among_next, among_refused, many_begun}
use Rattle.lk_records_read.proofs.globals.globals_of.Goals as goal

pub loop-k-init : goal.loop-k-init
loop-k-init c = many_begun (read_global c.args.strtab.now) _ c.args.count c.args.cursor.now c.in_ok-globals.ensures

pub returns-in_err-symbol : goal.returns-in_err-symbol
returns-in_err-symbol c =
    let p = err_from_is_err_and c.from_residual-in_err-symbol.result c.from_residual-in_err-symbol.ensures.1 in
    among_refused (λ _ b. read_global c.args.strtab.now b) c.loop-k.globals c.loop-k.k c.args.count c.loop-k.cursor c.read_global.new.cursor c.read_global.new.cursor _ _ c.from_residual-in_err-symbol.result c.loop-k-test.true c.loop-k.invariant c.in_err-symbol.ensures (p.1 ∙ ap (λ s. Err s) p.2)

pub loop-k-preserved : goal.loop-k-preserved
loop-k-preserved c =
    sym
    (among_next (λ _ b. read_global c.args.strtab.now b) c.loop-k.globals c.push.new.self _ c.loop-k.k c.args.count c.loop-k.cursor c.read_global.new.cursor c.loop-k-test.true c.in_ok-symbol.ensures c.in_ok-push.ensures.pushed)
    ∙ c.loop-k.invariant

pub returns : goal.returns
returns c =
    sym c.loop-k.invariant ∙ among_done (λ _ b. read_global c.args.strtab.now b) c.loop-k.globals c.loop-k.k c.args.count c.loop-k.cursor c.loop-k-test.false
