-- What the record sections of an image in their first form say of its link (this project's own): the version of the
-- records, the options, the inputs and the placement. Names and references are not in these sections.
use Rattle.std.specs.Prelude.{ℕ, Bool, List, []}
use Rattle.lk_report.specs.declared.causes.OptionRecord.{OptionRecord}
use Rattle.lk_model.specs.declared.input_names.InputName.{InputName}
use Rattle.lk_model.specs.declared.layouts.Placement.{Placement}
use Rattle.lk_model.specs.declared.records.InputRecord.{InputRecord}
use Rattle.lk_model.specs.declared.records.Records.{Records}
use Rattle.lk_model.specs.declared.summaries.InputSummary.{InputSummary}

-- the record of an input with this name, occurrence and summary, which is added or not
abbrev pub record_with : InputName → ℕ → Bool → InputSummary → InputRecord
record_with name occurrence added summary = record {
  path = name.path;
  occurrence = occurrence;
  lib = name.lib;
  added = added;
  stamp = name.stamp;
  summary = summary;
}

-- the parts of a link's records that these sections are made of
pub record RecordPartsValue : Type 0 where
  pub version : ℕ
  pub options : OptionRecord
  pub inputs : List InputRecord
  pub placement : Placement

-- those of a link that has this version, options but for `dynamic`, inputs and placement
abbrev pub record_parts_with : ℕ → OptionRecord → Bool → List InputRecord → Placement → RecordPartsValue
record_parts_with version options dynamic inputs place = record {
  version = version;
  options = record options { dynamic = dynamic };
  inputs = inputs;
  placement = place;
}

-- the parts of records
abbrev pub parts_of : Records → RecordPartsValue
parts_of records = record { version = records.version; options = records.options; inputs = records.inputs; placement = records.placement }

-- the records with these parts that have no name and no reference
abbrev pub nameless : RecordPartsValue → Records
nameless parts = record {
  version = parts.version;
  options = parts.options;
  inputs = parts.inputs;
  names = [];
  references = [];
  placement = parts.placement;
}
