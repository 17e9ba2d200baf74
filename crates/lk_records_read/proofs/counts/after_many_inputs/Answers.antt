use Rattle.std.specs.Prelude.{◌≡◌, ◌-◌, ◌*◌, true, length, nat_le, Err}
use Rattle.std.proofs.Common.{ap, rules, subst, sym, ◌∙◌}
use Rattle.std.proofs.lemmas.Result.{err_from_is_err_and}
use Rattle.lk_model.specs.InputsCounts.{after_input}
use Rattle.lk_records_read.specs.CountsRead.{AfterGives, after_many_inputs}
use Rattle.lk_records_read.proofs.HeadsWalked.{inputs_refused}
use Rattle.lk_records_read.proofs.counts.after_many_inputs.Goals as goal

pub returns-in_err-rest : goal.returns-in_err-rest
returns-in_err-rest c =
    let p = err_from_is_err_and c.from_residual.result c.from_residual.ensures.1 in
    let there : nat_le ((c.args.count - c.loop-k.k) * 56) (length c.loop-k.rest.now) ≡ true = search rules in
    let bad = subst (λ r. AfterGives (after_input c.loop-k.rest.now) r) c.in_err-rest.was c.after_input.ensures in
    subst (λ r. AfterGives (after_many_inputs c.args.left c.args.count c.args.bytes.now) r) (sym (p.1 ∙ ap (λ s. Err s) p.2))
    (sym c.loop-k.invariant ∙ inputs_refused c.args.left c.loop-k.k c.args.count c.loop-k.rest.now _ c.loop-k-test.true there bad)
