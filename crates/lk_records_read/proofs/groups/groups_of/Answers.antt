use Rattle.std.specs.Prelude.{Err}
use Rattle.std.proofs.Common.{ap, sym, ◌∙◌}
use Rattle.std.proofs.lemmas.Result.{err_from_is_err_and}
use Rattle.lk_records_read.specs.InputParts.{read_group}
use Rattle.lk_records_read.proofs.RecordsInRow.{among_done, among_next, among_refused, many_begun}
use Rattle.lk_records_read.proofs.groups.groups_of.Goals as goal

pub loop-k-init : goal.loop-k-init
loop-k-init c = many_begun (read_group c.args.strtab.now) _ c.args.count c.args.cursor.now c.in_ok-groups.ensures

pub returns-in_err-group : goal.returns-in_err-group
returns-in_err-group c =
    let p = err_from_is_err_and c.from_residual-in_err-group.result c.from_residual-in_err-group.ensures.1 in
    among_refused (λ _ b. read_group c.args.strtab.now b) c.loop-k.groups c.loop-k.k c.args.count c.loop-k.cursor c.read_group.new.cursor c.read_group.new.cursor _ _ c.from_residual-in_err-group.result c.loop-k-test.true c.loop-k.invariant c.in_err-group.ensures (p.1 ∙ ap (λ s. Err s) p.2)

pub loop-k-preserved : goal.loop-k-preserved
loop-k-preserved c =
    sym
    (among_next (λ _ b. read_group c.args.strtab.now b) c.loop-k.groups c.push.new.self _ c.loop-k.k c.args.count c.loop-k.cursor c.read_group.new.cursor c.loop-k-test.true c.in_ok-group.ensures c.in_ok-push.ensures.pushed)
    ∙ c.loop-k.invariant

pub returns : goal.returns
returns c =
    sym c.loop-k.invariant ∙ among_done (λ _ b. read_group c.args.strtab.now b) c.loop-k.groups c.loop-k.k c.args.count c.loop-k.cursor c.loop-k-test.false
