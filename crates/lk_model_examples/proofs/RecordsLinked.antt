-- Worked example: the records of the smallest link, from its words and its one file.
use Rattle.std.specs.Prelude.{◌≡◌, Some, refl}
use Rattle.lk_model_examples.proofs.Computed.{records_anew}
use Rattle.lk_model_examples.proofs.RecordCases.{smallest_records}
use Rattle.lk_model_examples.proofs.SmallestLink.{smallest_files, smallest_input_0, smallest_words}

smallest_recorded : records_anew smallest_words smallest_files ≡ Some smallest_records
unfolding smallest_words smallest_files smallest_input_0 records_anew
smallest_recorded = refl
