use Rattle.std.proofs.Common.{◌≡◌, nat_eq, fold, drop}
use Rattle.lk_model.specs.Numbered.{distinct, with_new}
use Rattle.lk_dyn_tables.proofs.number_sets.number_set.Given as goal

abbrev pub invariant-loop-number : goal.invariant-loop-number
invariant-loop-number l = fold (with_new nat_eq) l.set.keys (drop l.number-index l.numbers) ≡ distinct nat_eq l.numbers
