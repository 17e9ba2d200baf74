use Rattle.std.proofs.Common.{ℕ, nat_eq}
use Rattle.indexmap.specs.IndexMap.{get}
use Rattle.lk_layout.proofs.Lanes.{LanesGoOn, lanes_go_on, no_piece}
use Rattle.lk_layout.proofs.arrays.lane_stretch.Goals as goal

-- one more piece is in its lane, and moves it
pub loop-piece-preserved : goal.loop-piece-preserved
loop-piece-preserved c =
    let more = lanes_go_on c.args.ranked.now c.args.sorted.now c.loop-piece.piece-index no_piece c.loop-piece.offsets.items c.push_offset.new.offsets.items (λ r. get nat_eq c.loop-piece.lanes r) (λ r. get nat_eq c.lane_step.new.lanes r) c.in_ok-at.at c.loop-piece-test.true c.requires c.loop-piece.invariant.lanes c.loop-piece.invariant.offsets c.in_ok-at.ensures.at c.in_ok-at.ensures.moved c.in_ok-push_offset.ensures in
    record { lanes = more.lanes; offsets = more.offsets_are }
