use Rattle.std.proofs.Common.{ap, ◌∙◌, Err}
use Rattle.std.proofs.lemmas.Result.{err_from_is_err_and}
use Rattle.lk_probe.proofs.CommandPlaced.{command_laid, counts_kept, refused_laid}
use Rattle.lk_probe.proofs.laying.lay_out_command.Goals as goal

pub returns-in_err-inputs-clause-reported : goal.returns-in_err-inputs-clause-reported
returns-in_err-inputs-clause-reported g c = λ there e.
    let p = err_from_is_err_and c.from_residual.result c.from_residual.ensures.1 in
    refused_laid c.args.command.now there _ c.from_residual.result (c.in_err-inputs.ensures.reported there e) (p.1 ∙ ap (λ s. Err s) p.2)

pub returns-clause-reported : goal.returns-clause-reported
returns-clause-reported g c = λ there e. command_laid c.args.command.now there c.in_ok-inputs.inputs c.place_inputs.result (c.in_ok-inputs.ensures.reported there e) c.place_inputs.ensures.laid

pub returns-clause-faults : goal.returns-clause-faults
returns-clause-faults g c =
    counts_kept (g.F.Files.state c.args.files.now) (g.F.Files.state c.read_command.new.files) c.place_inputs.result c.in_ok-inputs.ensures.faults c.place_inputs.ensures.kinds
