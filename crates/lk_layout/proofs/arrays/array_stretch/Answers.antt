use Rattle.std.proofs.Common.{ap, ◌∙◌, subst, List, []}
use Rattle.lk_layout.specs.Ranked.{lane_offsets, rank_in, ranked_end}
use Rattle.lk_layout.specs.Sorts.{IsSortOf}
use Rattle.lk_layout.specs.declared.ranks.Ranked.{Ranked}
use Rattle.lk_layout.proofs.RankedPieces.{array_reported}
use Rattle.lk_layout.proofs.arrays.array_stretch.Goals as goal

-- the numbered pieces give the stretch of the array
pub returns : goal.returns
returns c =
    let sorted = subst (λ (rs : List Ranked). IsSortOf rank_in rs c.in_ok-sorted.sorted.items) c.as_slice.ensures.value c.in_ok-sorted.ensures in
    let reported = array_reported c.args.pieces.now c.in_ok-ranked.ranked.items c.in_ok-sorted.sorted.items c.in_ok-ranked.ensures sorted in
    record {
      offsets = c.in_ok-stretch.ensures.offsets ∙ (λ i. lane_offsets (c.as_slice-3.ensures.value i) [] (c.as_slice-2.ensures.value i)) ∙ reported.offsets;
      end = c.in_ok-stretch.ensures.end ∙ ap ranked_end c.as_slice-3.ensures.value ∙ reported.end;
    }
