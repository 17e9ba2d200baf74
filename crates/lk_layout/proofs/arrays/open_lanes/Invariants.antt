use Rattle.std.proofs.Common.{◌≡◌, ℕ, nat_eq, fold, drop}
use Rattle.std.specs.Option.{option_or}
use Rattle.indexmap.specs.IndexMap.{get}
use Rattle.lk_layout.specs.Ranked.{first_lane, rank_in, ranked_end, ranked_next}
use Rattle.lk_layout.specs.Sorts.{Rises}
use Rattle.lk_layout.proofs.arrays.open_lanes.Given as goal

abbrev pub invariant-loop-piece : goal.invariant-loop-piece
invariant-loop-piece l = record {
  rises : Rises rank_in (drop l.piece-index l.sorted);
  lanes : (rank : ℕ) → option_or (get nat_eq l.lanes rank) (first_lane l.end (drop l.piece-index l.sorted) rank) ≡ first_lane 0 l.sorted rank;
  ends : fold ranked_next l.end (drop l.piece-index l.sorted) ≡ ranked_end l.sorted;
}
