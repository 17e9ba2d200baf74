use Rattle.std.proofs.Common.{rules}
use Rattle.std.proofs.lemmas.List.Sorted.{answers_always, IsNonDecreasingBy-from_sort}
use Rattle.lk_model.specs.SectionOrder.{section_rank}
use Rattle.lk_outsec.proofs.Sorting.{sorted_in_order}
use Rattle.lk_outsec.proofs.orders.sort_by_rank.Goals as goal

pub returns-in-Ok : goal.returns-in-Ok
returns-in-Ok c =
    let ranks = answers_always _ _ _ (λ f a r next called. search rules) in
    sorted_in_order _ _
    (IsNonDecreasingBy-from_sort section_rank _ (c.in-Ok.ensures.sorted section_rank ranks))
    (c.sort_by_cached_key.ensures.stable section_rank ranks)
