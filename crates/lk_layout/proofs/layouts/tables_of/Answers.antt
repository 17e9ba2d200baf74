use Rattle.lk_model.specs.Resolving.{resolve}
use Rattle.lk_dyn_sizes.specs.SizeRows.{as_pairs}
use Rattle.lk_layout.proofs.KeptReported.{tables_reported}
use Rattle.lk_layout.proofs.layouts.tables_of.Goals as goal

-- the groups' sections are those that kept pieces go to
pub returns : goal.returns
returns c = λ xs given groups.
    tables_reported (resolve c.args.options.now xs) c.args.needs.now c.args.kept.now c.in_ok-keys.keys (as_pairs c.in_ok-tables.tables) given.needed groups c.in_ok-keys.ensures (c.in_ok-tables.ensures xs given)
