use Rattle.std.proofs.Common.{◌∙◌}
use Rattle.lk_records.proofs.OneForEach.{marks_as_many, occurrences_as_many}
use Rattle.lk_records.proofs.input_records.input_records.Goals as goal

pub records_of-requires-clause-occurrences : goal.records_of-requires-clause-occurrences
records_of-requires-clause-occurrences c = occurrences_as_many c.args.names.now c.as_slice.result.now (c.as_slice.ensures ∙ c.in_ok-occurrences.ensures) ∙ c.requires

pub records_of-requires-clause-marks : goal.records_of-requires-clause-marks
records_of-requires-clause-marks c = marks_as_many c.args.added.now c.args.names.now c.as_slice-2.result.now (c.as_slice-2.ensures ∙ c.in_ok-marks.ensures) ∙ c.requires
