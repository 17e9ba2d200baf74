use Rattle.lk_symtab.proofs.BestsKept.{best_of_first}
use Rattle.lk_symtab.proofs.rows.Row.first.Goals as goal

-- the best of the one symbol
pub invariant_of-result : goal.invariant_of-result
invariant_of-result c =
    best_of_first c.in_ok-name.name c.in_ok-list.list c.args.symbol c.none.result c.with-best.result c.none.ensures c.with-best.ensures c.in_ok-list.ensures
