use Rattle.std.proofs.Common.{◌∙◌, ℕ, nat_eq}
use Rattle.indexmap.specs.IndexMap.{get}
use Rattle.lk_layout.proofs.Lanes.{ends_on, lanes_open, no_piece, rises_on}
use Rattle.lk_layout.proofs.arrays.open_lanes.Goals as goal

-- one more piece may open its lane, and moves the end
pub loop-piece-preserved : goal.loop-piece-preserved
loop-piece-preserved c =
    record {
      rises = rises_on c.args.sorted.now c.loop-piece.piece-index no_piece c.loop-piece-test.true c.loop-piece.invariant.rises;
      lanes = λ rank. lanes_open c.args.sorted.now c.loop-piece.piece-index no_piece (λ r. get nat_eq c.loop-piece.lanes r) (λ r. get nat_eq c.open_lane.new.lanes r) c.loop-piece.end c.in_ok-end.field-0.next c.loop-piece-test.true c.loop-piece.invariant.rises c.in_ok-open_lane.ensures c.in_ok-end.ensures.next rank ∙ c.loop-piece.invariant.lanes rank;
      ends = ends_on c.args.sorted.now c.loop-piece.piece-index no_piece c.loop-piece.end c.in_ok-end.field-0.next c.loop-piece-test.true c.in_ok-end.ensures.next ∙ c.loop-piece.invariant.ends;
    }
