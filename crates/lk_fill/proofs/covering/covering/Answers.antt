use Rattle.std.proofs.Common.{rules}
use Rattle.std.proofs.lemmas.List.Sorted.{answers_always}
use Rattle.lk_fill.specs.declared.covering.Covered.{Covered}
use Rattle.lk_fill.proofs.Collected.{collected, put_in_order}
use Rattle.lk_fill.proofs.covering.covering.Goals as goal

pub returns : goal.returns
returns c =
    let sorted = c.sort_unstable_by_key.ensures.sorted (λ (r : Covered). (r.section, r.start)) (answers_always _ _ _ (λ f a r g h. search rules)) in
    let all = collected c.args.placement.now c.as_slice-rows.result.now c.as_slice.result.now c.new-ranges.result.items c.cover_pieces.new.ranges.items c.cover_rows.new.ranges.items c.as_slice-rows.ensures c.as_slice.ensures c.new-ranges.ensures.items c.in_ok-cover_pieces.ensures c.in_ok-cover_rows.ensures in
    put_in_order c.args.placement.now c.cover_rows.new.ranges.items c.sort_unstable_by_key.new.self.items all c.sort_unstable_by_key.ensures.permutation sorted
