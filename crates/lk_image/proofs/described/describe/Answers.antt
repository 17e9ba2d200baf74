use Rattle.std.proofs.Common.{ap, ◌∙◌}
use Rattle.lk_model.specs.Resolving.{resolve}
use Rattle.lk_image.specs.Tails.{placed_tail}
use Rattle.lk_image.proofs.described.describe.Goals as goal

pub returns : goal.returns
returns c = λ xs named summed counted found.
    let place = c.args.placement.now in
    c.in_ok-placed.ensures
    ∙ ap (placed_tail place) (c.in_ok-parts.ensures.of_link (resolve c.args.options.now xs) place (c.in_ok-records.ensures xs named summed counted found))
