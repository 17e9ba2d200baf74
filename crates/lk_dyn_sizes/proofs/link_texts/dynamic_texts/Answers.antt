use Rattle.lk_dyn_sizes.proofs.StringsGiven.{texts_given}
use Rattle.lk_dyn_sizes.proofs.link_texts.dynamic_texts.Goals as goal

pub returns-clause-given : goal.returns-clause-given
returns-clause-given c = texts_given c.args.resolution.now c.names.result.now c.args.numbers.now c.args.needed.now c.args.runpath.now c.strings_of.result c.names.ensures c.strings_of.ensures
