use Rattle.lk_model.specs.Resolving.{resolve}
use Rattle.lk_layout.proofs.LawfulReported.{lawful_reported}
use Rattle.lk_layout.proofs.layouts.full_layout.Goals as goal

-- what is placed is the full placement, which is lawful
pub returns : goal.returns
returns c = record {
  placed = c.laid_out.ensures.placed;
  lawful = λ xs given sound. lawful_reported (resolve c.args.options.now xs) c.laid_out.result (c.laid_out.ensures.placed xs given) (c.full_placement_is_lawful.ensures.inputs c.args.options.now xs sound);
}
