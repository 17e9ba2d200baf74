use Rattle.std.proofs.Common.{◌≡◌, [], fold, drop}
use Rattle.lk_model.specs.Texts.{with_text}
use Rattle.lk_dyn_sizes.specs.DynamicStrings.{sonames_at}
use Rattle.lk_dyn_sizes.proofs.link_texts.sonames_of.Given as goal

abbrev pub invariant-loop-number : goal.invariant-loop-number
invariant-loop-number l = fold with_text l.needed (sonames_at l.inputs (drop l.number-index l.numbers)) ≡ fold with_text [] (sonames_at l.inputs l.numbers)
