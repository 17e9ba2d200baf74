use Rattle.lk_records.proofs.LinkRecorded.{link_recorded}
use Rattle.lk_records.proofs.gathering.link_records.Goals as goal

pub returns : goal.returns
returns c = λ xs.
    link_recorded c.args.options.now xs c.args.names.now c.args.summaries.now c.args.resolution.now c.args.placement.now c.gather.result c.gather.ensures
