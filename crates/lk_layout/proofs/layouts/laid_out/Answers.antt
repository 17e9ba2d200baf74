use Rattle.std.proofs.Common.{ap, ◌∙◌}
use Rattle.lk_dyn_sizes.specs.SizeRows.{as_pairs}
use Rattle.lk_layout.specs.Grouping.{groups_of}
use Rattle.lk_layout.specs.KeptIn.{kept_in}
use Rattle.lk_layout.proofs.KeptReported.{kept_reported, layout_reported}
use Rattle.lk_layout.proofs.layouts.laid_out.Goals as goal

-- what is placed are the kept pieces, the tables and the slots of the link
pub returns : goal.returns
returns c = record {
  placed = λ xs given.
      let resolution = c.args.resolution.now in
      let summaries = c.args.inputs.now in
      let needs = c.args.needs.now in
      let options = c.args.options.now in
      let kept = kept_in resolution summaries needs.copies in
      let kept_so = kept_reported resolution summaries needs options xs given in
      let groups = c.in-Ok-kept_pieces.ensures in
      let sizes = ap as_pairs c.as_slice.ensures ∙ c.in-Ok-tables_of.ensures xs given (groups ∙ ap groups_of kept_so) in
      layout_reported options xs needs kept (as_pairs c.as_slice.result.now) c.in-Ok-slots_of.slots c.place_kept.result given.needed kept_so sizes c.in-Ok-slots_of.ensures (c.place_kept.ensures kept groups);
}
