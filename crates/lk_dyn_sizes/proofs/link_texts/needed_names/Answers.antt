use Rattle.lk_dyn_sizes.proofs.StringsGiven.{needed_given}
use Rattle.lk_dyn_sizes.proofs.link_texts.needed_names.Goals as goal

pub returns-clause-given : goal.returns-clause-given
returns-clause-given c = λ needs options xs given. needed_given c.args.resolution.now c.args.inputs.now needs options xs c.needed_of.result given c.needed_of.ensures
