use Rattle.lk_dyn_sizes.proofs.SizesGiven.{sizes_given}
use Rattle.lk_dyn_sizes.proofs.sizing.table_sizes.Goals as goal

pub returns : goal.returns
returns c = sizes_given c.args.keys.now c.args.resolution.now c.args.inputs.now c.args.needs.now c.args.options.now c.tables_of.result c.tables_of.ensures
