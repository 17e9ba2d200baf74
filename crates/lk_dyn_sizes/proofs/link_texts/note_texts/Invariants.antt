use Rattle.std.proofs.Common.{◌≡◌, fold, drop}
use Rattle.lk_model.specs.Texts.{with_text}
use Rattle.lk_dyn_sizes.proofs.link_texts.note_texts.Given as goal

abbrev pub invariant-loop-number : goal.invariant-loop-number
invariant-loop-number l = fold with_text l.strings (drop l.number l.texts) ≡ fold with_text l.initial.strings l.texts
