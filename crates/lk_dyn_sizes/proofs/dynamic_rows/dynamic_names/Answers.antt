use Rattle.lk_dyn_sizes.proofs.NamesGiven.{dynamic_given}
use Rattle.lk_dyn_sizes.proofs.dynamic_rows.dynamic_names.Goals as goal

pub returns-clause-given : goal.returns-clause-given
returns-clause-given c = λ summaries xs given. dynamic_given c.args.resolution.now summaries c.args.needs.now c.args.options.now xs c.dynamic_of.result given c.dynamic_of.ensures
