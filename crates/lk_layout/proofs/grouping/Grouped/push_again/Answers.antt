use Rattle.lk_layout.proofs.GroupEntries.{put_again}
use Rattle.lk_layout.proofs.grouping.Grouped.push_again.Goals as goal

-- the piece is at the end of the group with the number
pub returns : goal.returns
returns c =
    let put = put_again c.args.self.now c.self.inside.sections.entries c.self.inside.order.items c.args.number c.pair_mut-pieces.result.0.now c.pair_mut-pieces.result.1.now c.push.new.self c.args.piece c.self.view_is c.requires c.pair_mut-pieces.ensures.value c.in_ok-push.ensures in
    (put.number, put.groups)
