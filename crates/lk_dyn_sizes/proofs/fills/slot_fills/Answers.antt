use Rattle.lk_dyn_sizes.proofs.FillsGiven.{fills_given}
use Rattle.lk_dyn_sizes.proofs.fills.slot_fills.Goals as goal

pub returns-clause-given : goal.returns-clause-given
returns-clause-given c = λ summaries options xs given. fills_given c.args.resolution.now summaries c.args.needs.now options xs c.args.slots.now c.fills_of.result given c.fills_of.ensures
