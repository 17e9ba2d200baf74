use Rattle.std.proofs.Common.{not, ap, ◌∙◌}
use Rattle.lk_records_read.specs.DistinctTexts.{texts_in}
use Rattle.lk_records_read.proofs.TextsNoted.{text_added, text_known}
use Rattle.lk_records_read.proofs.distinct_texts.note_text.Goals as goal

pub returns : goal.returns
returns c = (
  c.in-Ok.ensures.added ∙ ap not (text_known c.args.texts.now.keys c.args.text),
  ap texts_in c.in-Ok.ensures.keys ∙ text_added c.args.texts.now.keys c.args.text,
)
