use Rattle.std.specs.Prelude.{◌≡◌, ◌-◌, [], count_by}
use Rattle.lk_model.specs.RecordReaders.{read_among}
use Rattle.lk_model.specs.TextsReading.{checked_text, is_end}
use Rattle.lk_records_read.specs.DistinctTexts.{texts_in}
use Rattle.lk_records_read.proofs.distinct_texts.pass_texts.Given as goal

abbrev pub invariant-loop-k : goal.invariant-loop-k
invariant-loop-k l =
    read_among checked_text (texts_in l.texts.keys) (l.count - l.k) l.cursor ≡ read_among checked_text [] (count_by is_end l.strtab) l.strtab
