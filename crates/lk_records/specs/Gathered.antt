-- This project's own: what an image records of a link, by the types of the code.
use Rattle.std.specs.Prelude.{List, [], length, map}
use Rattle.lk_report.specs.declared.causes.OptionRecord.{OptionRecord}
use Rattle.lk_model.specs.declared.input_names.InputName.{InputName}
use Rattle.lk_model.specs.declared.layouts.Placement.{Placement}
use Rattle.lk_model.specs.declared.summaries.InputSummary.{InputSummary}
use Rattle.lk_model.specs.RecordsOf.{records_version}
use Rattle.lk_marks.specs.Marked.{marks_of}
use Rattle.lk_resolve.specs.Settling.{ResolutionValue}
use Rattle.lk_incr.specs.RecordParts.{RecordPartsValue}
use Rattle.lk_records.specs.InputRecords.{records_with}
use Rattle.lk_records.specs.Occurrences.{name_path, occurrences_after}

-- the parts of the records of inputs with these names and summaries, which were resolved to this
unfoldable pub gathered : OptionRecord → List InputName → List InputSummary → ResolutionValue → Placement → RecordPartsValue
gathered options names summaries resolution place = record {
  version = records_version;
  options = record options { dynamic = resolution.dynamic };
  inputs = records_with names (occurrences_after [] (map name_path names)) (marks_of resolution.added (length names)) summaries;
  placement = place;
}
