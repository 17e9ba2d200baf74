use Rattle.lk_inputs.proofs.KindsReported.{summaries_kinds}
use Rattle.lk_inputs.proofs.inputs.objects_of.Goals as goal

pub returns-clause-kinds : goal.returns-clause-kinds
returns-clause-kinds c = summaries_kinds c.args.files.now c.read_summaries.result c.read_summaries.ensures
