use Rattle.std.proofs.Common.{◌≡◌, fold, drop}
use Rattle.lk_model.specs.Texts.{with_text}
use Rattle.lk_dyn_sizes.specs.DynamicStrings.{texts_at}
use Rattle.lk_dyn_sizes.proofs.link_texts.note_names.Given as goal

abbrev pub invariant-loop-number : goal.invariant-loop-number
invariant-loop-number l = fold with_text l.strings (texts_at l.names (drop l.number-index l.numbers)) ≡ fold with_text l.initial.strings (texts_at l.names l.numbers)
