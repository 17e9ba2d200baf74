use Rattle.std.proofs.Common.{◌≡◌, nat_eq, fold, drop}
use Rattle.lk_model.specs.Numbered.{with_new}
use Rattle.lk_dyn_sizes.proofs.name_sets.insert_numbers.Given as goal

abbrev pub invariant-loop-number : goal.invariant-loop-number
invariant-loop-number l = fold (with_new nat_eq) l.names.keys (drop l.number-index l.numbers) ≡ fold (with_new nat_eq) l.initial.names.keys l.numbers
