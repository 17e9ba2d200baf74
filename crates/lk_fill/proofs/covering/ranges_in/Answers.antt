use Rattle.std.proofs.Common.{ltb, leb, ltb-true, ltb-false, leb-true, leb-false, sym, subst, arith, rules}
use Rattle.std.specs.List.Sorted.{IsNonDecreasingBy}
use Rattle.std.proofs.lemmas.List.Sorted.{IsPartitionPoint-from_clause, IsPartitionedBy-leb, IsPartitionedBy-ltb, IsNonDecreasingBy-drop}
use Rattle.lk_fill.specs.declared.covering.Covered.{Covered}
use Rattle.lk_fill.proofs.Rising.{run_found, sections_rise}
use Rattle.lk_fill.proofs.covering.ranges_in.Goals as goal

pub returns : goal.returns
returns c =
    let xs = c.args.ranges.now in
    let n = c.args.section in
    let rest = c.split_at.result.1.now in
    let rise = sections_rise xs c.requires in
    let first = IsPartitionPoint-from_clause (λ (r : Covered). ltb r.section n) _ _ c.partition_point-first.ensures.partitioned (IsPartitionedBy-ltb (λ (r : Covered). r.section) xs n rise) (λ a r q k. search rules) in
    let rest_rise = subst (IsNonDecreasingBy (λ (r : Covered). r.section)) (sym c.split_at.ensures.back) (IsNonDecreasingBy-drop (λ (r : Covered). r.section) c.partition_point-first.result xs rise) in
    let second = IsPartitionPoint-from_clause (λ (r : Covered). leb r.section n) _ _ c.partition_point-count.ensures.partitioned (IsPartitionedBy-leb (λ (r : Covered). r.section) rest n rest_rise) (λ a r q k. search rules) in
    run_found n c.partition_point-first.result c.partition_point-count.result xs rest c.split_at-2.result.0.now c.split_at.ensures.back c.split_at-2.ensures.front c.partition_point-first.ensures.bound
    (λ k d less. ltb-true _ _ (first.0 k d (omega arith) less))
    (λ k d le less. ltb-false _ _ (first.1 k d le less))
    (λ k d less. leb-true _ _ (second.0 k d (omega arith) less))
    (λ k d le less. leb-false _ _ (second.1 k d le less))
