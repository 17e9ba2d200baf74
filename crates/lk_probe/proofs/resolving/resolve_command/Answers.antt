use Rattle.std.proofs.Common.{ap, ◌∙◌, Err}
use Rattle.std.proofs.lemmas.Result.{err_from_is_err_and}
use Rattle.lk_probe.proofs.CommandsResolved.{inputs_refused, resolved, unresolved}
use Rattle.lk_probe.proofs.resolving.resolve_command.Goals as goal

pub returns-in_err-inputs-clause-reported : goal.returns-in_err-inputs-clause-reported
returns-in_err-inputs-clause-reported g c = λ there e.
    let p = err_from_is_err_and c.from_residual.result c.from_residual.ensures.1 in
    inputs_refused c.args.command.now there _ c.from_residual.result (c.in_err-inputs.ensures.reported there e) (p.1 ∙ ap (λ s. Err s) p.2)

pub returns-in_err-resolution-clause-reported : goal.returns-in_err-resolution-clause-reported
returns-in_err-resolution-clause-reported g c = λ there e.
    let p = err_from_is_err_and c.from_residual-in_err-resolution.result c.from_residual-in_err-resolution.ensures.1 in
    unresolved c.args.command.now there c.in_ok-inputs.inputs c.in_err-resolution.field-0.0 c.from_residual-in_err-resolution.result (c.in_ok-inputs.ensures.reported there e) c.in_err-resolution.ensures.resolution
    (p.1 ∙ ap (λ s. Err s) p.2)

pub returns-clause-reported : goal.returns-clause-reported
returns-clause-reported g c = λ there e.
    resolved c.args.command.now there c.in_ok-inputs.inputs c.in_ok-resolution.resolution (c.in_ok-inputs.ensures.reported there e) c.in_ok-resolution.ensures.resolution
