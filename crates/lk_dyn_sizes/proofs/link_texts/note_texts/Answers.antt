use Rattle.std.proofs.Common.{fold}
use Rattle.lk_model.specs.Texts.{with_text}
use Rattle.lk_dyn_sizes.proofs.StringsNoted.{text_noted}
use Rattle.lk_dyn_sizes.proofs.link_texts.note_texts.Goals as goal

pub loop-number-preserved : goal.loop-number-preserved
loop-number-preserved c =
    text_noted c.loop-number.strings c.note.new.self (fold with_text c.args.strings.now c.args.texts.now) c.args.texts.now c.text.result.now c.loop-number.number c.text.ensures c.in_ok-note.ensures c.loop-number.invariant
