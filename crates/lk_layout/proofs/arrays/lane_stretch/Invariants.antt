use Rattle.std.proofs.Common.{◌≡◌, ◌++◌, ℕ, [], nat_eq, drop, take}
use Rattle.indexmap.specs.IndexMap.{get}
use Rattle.lk_layout.specs.Ranked.{lane_at, lane_offsets}
use Rattle.lk_layout.proofs.arrays.lane_stretch.Given as goal

abbrev pub invariant-loop-piece : goal.invariant-loop-piece
invariant-loop-piece l = record {
  lanes : (r : ℕ) → get nat_eq l.lanes r ≡ lane_at l.sorted (take l.piece-index l.ranked) r;
  offsets : l.offsets.items ++ lane_offsets l.sorted (take l.piece-index l.ranked) (drop l.piece-index l.ranked) ≡ lane_offsets l.sorted [] l.ranked;
}
