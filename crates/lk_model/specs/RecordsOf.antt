-- What an image records of its link (this project's own): all inputs, those not added too, each name
-- with its winner, each reference that is not through a LOCAL symbol, and the placement.
use Rattle.std.specs.Prelude.{ℕ, ◌==◌, List, map, zip, Option, Some, None, filter_map}
use Rattle.std.specs.List.{list_any, enumerate_from, zip, filter_map}
use Rattle.lk_model.specs.Views.{Resolved, Ref, Through, Input}
use Rattle.lk_model.specs.Views.Through.{ByName, ByLocal}
use Rattle.lk_model.specs.declared.layouts.Placement.{Placement}
use Rattle.lk_model.specs.declared.records.InputRecord.{InputRecord}
use Rattle.lk_model.specs.declared.records.NameRow.{NameRow}
use Rattle.lk_model.specs.declared.records.Records.{Records}
use Rattle.lk_model.specs.declared.records.Reference.{Reference}
use Rattle.lk_model.specs.declared.summaries.Contributions.{Contributions}
use Rattle.lk_model.specs.declared.summaries.Winner.{Winner}
use Rattle.lk_model.specs.declared.summaries.Winner.TheVariants as winner

-- the version of the records that this linker writes
abbrev pub records_version : ℕ
records_version = 1

-- an input with its number
abbrev pub input_record : List ℕ → ℕ × Input → InputRecord
input_record added (n, i) = record {
  path = i.path;
  occurrence = i.occurrence;
  lib = i.lib;
  added = list_any (λ m. m == n) added;
  stamp = i.stamp;
  summary = i.summary;
}

-- the kind of a winner and its input
abbrev pub winner_kind : Winner → ℕ
winner_kind winner.Nothing = 0
winner_kind (winner.Strong i k) = 1
winner_kind (winner.Common size align) = 2
winner_kind (winner.Weak i k) = 3
winner_kind winner.Made = 4
winner_kind (winner.Import i k) = 5

abbrev pub winner_input : Winner → Option ℕ
winner_input winner.Nothing = None
winner_input (winner.Strong i k) = Some i
winner_input (winner.Common size align) = None
winner_input (winner.Weak i k) = Some i
winner_input winner.Made = None
winner_input (winner.Import i k) = Some i

abbrev pub name_row : Contributions × Winner → NameRow
name_row (c, w) = record { name = c.name; winner = winner_kind w; input = winner_input w }

-- a reference that goes through a name
abbrev pub recorded_through : Ref → Through → Option Reference
recorded_through ref (ByName n weak) =
    Some (record { input = ref.input; section = ref.section; offset = ref.offset; code = ref.code; name = n; addend = ref.addend; weak = weak })
recorded_through ref (ByLocal k) = None

abbrev pub recorded_reference : Ref → Option Reference
recorded_reference ref = recorded_through ref ref.through

unfoldable pub records_of : Resolved → Placement → Records
records_of r place = record {
  version = records_version;
  options = r.options;
  inputs = map (input_record r.added) (enumerate_from 0 r.inputs);
  names = map name_row (zip r.names r.winners);
  references = filter_map recorded_reference r.references;
  placement = place;
}
