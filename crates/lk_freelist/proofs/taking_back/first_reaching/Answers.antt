use Rattle.std.proofs.Common.{ltb, ltb-true, ltb-false, arith, rules}
use Rattle.std.proofs.lemmas.List.Sorted.{IsPartitionPoint-from_clause, IsPartitionedBy-ltb}
use Rattle.lk_model.specs.declared.layouts.Hole.{Hole}
use Rattle.lk_freelist.specs.FreeBytes.{end_of}
use Rattle.lk_freelist.proofs.Halving.{ends_rise}
use Rattle.lk_freelist.proofs.taking_back.first_reaching.Goals as goal

pub returns-clause-below : goal.returns-clause-below
returns-clause-below c =
    let parted = IsPartitionedBy-ltb end_of c.args.holes.now c.args.start (λ i j d order within. ends_rise 0 i j c.args.holes.now d c.requires order within) in
    let point = IsPartitionPoint-from_clause (λ (h : Hole). ltb (end_of h) c.args.start) _ _ c.partition_point.ensures.partitioned parted (λ a r q k. search rules) in
    λ k d h. ltb-true _ _ (point.0 k d (omega arith) h)

pub returns-clause-reaches : goal.returns-clause-reaches
returns-clause-reaches c =
    let parted = IsPartitionedBy-ltb end_of c.args.holes.now c.args.start (λ i j d order within. ends_rise 0 i j c.args.holes.now d c.requires order within) in
    let point = IsPartitionPoint-from_clause (λ (h : Hole). ltb (end_of h) c.args.start) _ _ c.partition_point.ensures.partitioned parted (λ a r q k. search rules) in
    λ d within. ltb-false _ _ (point.1 c.partition_point.result d (omega arith) within)
