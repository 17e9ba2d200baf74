use Rattle.std.specs.Prelude.{Err}
use Rattle.std.proofs.Common.{ap, ◌∙◌}
use Rattle.std.proofs.lemmas.Result.{err_from_is_err_and}
use Rattle.lk_records_read.proofs.NameRows.{names_refused}
use Rattle.lk_records_read.proofs.names.names_of.Goals as goal

pub returns-in_err-row : goal.returns-in_err-row
returns-in_err-row c =
    let p = err_from_is_err_and c.from_residual-in_err-row.result c.from_residual-in_err-row.ensures.1 in
    names_refused c.args.strtab.now c.args.counts.now.inputs c.args.counts.now.references c.loop-k.names c.loop-k.k c.args.count c.loop-k.cursor c.read_name.new.cursor c.read_name.new.cursor _ _ c.from_residual-in_err-row.result c.loop-k-test.true c.loop-k.invariant c.in_err-row.ensures (p.1 ∙ ap (λ s. Err s) p.2)
