use Rattle.lk_inputs.proofs.PassesReported.{sound_reported}
use Rattle.lk_inputs.proofs.summaries.read_summaries.Goals as goal

pub returns : goal.returns
returns c = sound_reported c.args.files.now c.in-Ok.judged c.has_faults.result c.in-Ok.ensures c.has_faults.ensures c.if-has_faults.false
