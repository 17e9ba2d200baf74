-- Text after text: the first that is there again is refused, and each other is one more.
use Rattle.std.specs.Prelude.{Err}
use Rattle.std.specs.List.{before_first}
use Rattle.std.proofs.Common.{ap, sym, ◌∙◌}
use Rattle.std.proofs.lemmas.Result.{err_from_is_err_and}
use Rattle.lk_model.specs.TextsReading.{checked_text, is_end}
use Rattle.lk_records_read.specs.DistinctTexts.{texts_in}
use Rattle.lk_records_read.proofs.RecordsInRow.{among_next}
use Rattle.lk_records_read.proofs.TextsNoted.{texts_finish, texts_refused}
use Rattle.lk_records_read.proofs.distinct_texts.pass_texts.Goals as goal

pub returns-in_err-read_text : goal.returns-in_err-read_text
returns-in_err-read_text c =
    let p = err_from_is_err_and c.from_residual.result c.from_residual.ensures.1 in
    texts_refused c.args.strtab.now c.loop-k.cursor c.read_text.new.cursor (texts_in c.loop-k.texts.keys) (texts_in c.read_text.new.texts.keys) c.loop-k.k c.ends_in-count.result _ c.from_residual.result c.loop-k-test.true c.loop-k.invariant c.in_err-read_text.ensures (p.1 ∙ ap (λ s. Err s) p.2)

pub loop-k-preserved : goal.loop-k-preserved
loop-k-preserved c =
    sym
    (among_next checked_text (texts_in c.loop-k.texts.keys) (texts_in c.read_text.new.texts.keys) (before_first is_end c.loop-k.cursor) c.loop-k.k c.ends_in-count.result c.loop-k.cursor c.read_text.new.cursor c.loop-k-test.true c.in_ok-read_text.ensures.0 c.in_ok-read_text.ensures.1)
    ∙ c.loop-k.invariant

pub returns : goal.returns
returns c =
    texts_finish c.args.strtab.now c.loop-k.cursor (texts_in c.loop-k.texts.keys) c.loop-k.k c.ends_in-count.result c.loop-k-test.false c.loop-k.invariant c.finish.result c.finish.ensures
