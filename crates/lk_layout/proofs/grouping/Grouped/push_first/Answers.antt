use Rattle.std.proofs.Common.{◌∙◌, ap, List, [], ◌∷◌, ◌++◌}
use Rattle.lk_model.specs.Views.{KeptPiece}
use Rattle.lk_layout.proofs.GroupEntries.{put_last}
use Rattle.lk_layout.proofs.grouping.Grouped.push_first.Goals as goal

-- the new group is last
pub returns : goal.returns
returns c =
    let put = put_last c.args.self.now c.self.inside.sections.entries c.insert_full.new.self.entries c.self.inside.order.items c.in-Ok.number c.push.new.self c.key.result.now c.args.piece c.self.view_is c.requires c.key.ensures (c.in_ok-push.ensures ∙ ap (λ (ps : List KeptPiece). ps ++ c.args.piece ∷ []) c.new-pieces.ensures) c.in-Ok.ensures.index c.in-Ok.ensures.entries in
    (put.number, put.groups)
