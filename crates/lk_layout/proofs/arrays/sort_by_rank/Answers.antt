use Rattle.std.proofs.Common.{rules}
use Rattle.std.proofs.lemmas.List.Sorted.{answers_always, IsNonDecreasingBy-from_sort}
use Rattle.lk_layout.specs.Ranked.{rank_in}
use Rattle.lk_layout.proofs.SortedOnce.{is_sort}
use Rattle.lk_layout.proofs.arrays.sort_by_rank.Goals as goal

pub returns-in-Ok : goal.returns-in-Ok
returns-in-Ok c =
    let ranks = answers_always _ _ _ (λ f a r next called. search rules) in
    is_sort rank_in _ _
    (IsNonDecreasingBy-from_sort rank_in _ (c.in-Ok.ensures.sorted rank_in ranks))
    (c.sort_by_key.ensures.stable rank_in ranks)
