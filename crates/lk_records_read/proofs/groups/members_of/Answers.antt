use Rattle.std.specs.Prelude.{Err}
use Rattle.std.proofs.Common.{ap, sym, ◌∙◌}
use Rattle.std.proofs.lemmas.Result.{err_from_is_err_and}
use Rattle.lk_records_read.specs.InputParts.{read_member}
use Rattle.lk_records_read.proofs.RecordsInRow.{among_done, among_next, among_refused, many_begun}
use Rattle.lk_records_read.proofs.groups.members_of.Goals as goal

pub loop-k-init : goal.loop-k-init
loop-k-init c = many_begun (read_member c.args.strtab.now) _ c.args.count c.args.cursor.now c.in_ok-members.ensures

pub returns-in_err-member : goal.returns-in_err-member
returns-in_err-member c =
    let p = err_from_is_err_and c.from_residual-in_err-member.result c.from_residual-in_err-member.ensures.1 in
    among_refused (λ _ b. read_member c.args.strtab.now b) c.loop-k.members c.loop-k.k c.args.count c.loop-k.cursor c.read_member.new.cursor c.read_member.new.cursor _ _ c.from_residual-in_err-member.result c.loop-k-test.true c.loop-k.invariant c.in_err-member.ensures (p.1 ∙ ap (λ s. Err s) p.2)

pub loop-k-preserved : goal.loop-k-preserved
loop-k-preserved c =
    sym
    (among_next (λ _ b. read_member c.args.strtab.now b) c.loop-k.members c.push.new.self _ c.loop-k.k c.args.count c.loop-k.cursor c.read_member.new.cursor c.loop-k-test.true c.in_ok-member.ensures c.in_ok-push.ensures.pushed)
    ∙ c.loop-k.invariant

pub returns : goal.returns
returns c =
    sym c.loop-k.invariant ∙ among_done (λ _ b. read_member c.args.strtab.now b) c.loop-k.members c.loop-k.k c.args.count c.loop-k.cursor c.loop-k-test.false
