use Rattle.std.proofs.Common.{rules}
use Rattle.std.proofs.lemmas.List.Sorted.{IsPartitionPoint-from_clause, IsPartitionedBy-leb}
use Rattle.lk_ranges.specs.Stretches.{Stretch, begins_by, start_of}
use Rattle.lk_ranges.proofs.gathering.first_after.Goals as goal

pub returns-clause-parted : goal.returns-clause-parted
returns-clause-parted c =
    IsPartitionPoint-from_clause (λ (r : Stretch). begins_by c.args.start r) _ _ c.partition_point.ensures.partitioned (IsPartitionedBy-leb start_of c.args.list.now c.args.start c.requires) (λ a r q k. search rules)
