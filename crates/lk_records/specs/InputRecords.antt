-- This project's own: the records of inputs, by the types of the code.
use Rattle.std.specs.Prelude.{ℕ, Bool, List, [], ◌∷◌}
use Rattle.lk_model.specs.declared.input_names.InputName.{InputName}
use Rattle.lk_model.specs.declared.records.InputRecord.{InputRecord}
use Rattle.lk_model.specs.declared.summaries.InputSummary.{InputSummary}
use Rattle.lk_incr.specs.RecordParts.{record_with}

-- the records of inputs with these occurrences, marks and summaries
abbrev pub records_with : List InputName → List ℕ → List Bool → List InputSummary → List InputRecord
records_with (name ∷ names) (occurrence ∷ occurrences) (added ∷ marks) (summary ∷ summaries) =
    record_with name occurrence added summary ∷ records_with names occurrences marks summaries
records_with names occurrences marks summaries = []
