use Rattle.std.proofs.Common.{arith, ltb, ltb-false, ltb-true, rules}
use Rattle.std.proofs.lemmas.List.Sorted.{IsPartitionPoint-from_clause, IsPartitionedBy-ltb}
use Rattle.lk_symbol_values.proofs.SymbolsRise.{found_behind, symbols_rise}
use Rattle.lk_symbol_values.proofs.input_symbols.lower_count.Goals as goal

pub returns : goal.returns
returns c =
    let parted = IsPartitionedBy-ltb (λ g. g.symbol) c.args.globals.now c.args.symbol (λ i j d order within. symbols_rise 0 i j c.args.globals.now d c.requires order within) in
    let point = IsPartitionPoint-from_clause (λ g. ltb g.symbol c.args.symbol) _ _ c.partition_point.ensures.partitioned parted (λ a r q k. search rules) in
    found_behind c.args.symbol 0 c.args.globals.now c.partition_point.result c.requires
    (λ k d lower. ltb-true _ _ (point.0 k d (omega arith) lower))
    (λ k d least within. ltb-false _ _ (point.1 k d least within))
