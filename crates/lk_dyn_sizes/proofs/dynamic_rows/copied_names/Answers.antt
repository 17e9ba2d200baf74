use Rattle.lk_dyn_sizes.proofs.NamesGiven.{copied_given}
use Rattle.lk_dyn_sizes.proofs.dynamic_rows.copied_names.Goals as goal

pub returns-clause-given : goal.returns-clause-given
returns-clause-given c = λ summaries options xs given. copied_given c.args.resolution.now summaries c.args.needs.now options xs c.copied_of.result given c.copied_of.ensures
