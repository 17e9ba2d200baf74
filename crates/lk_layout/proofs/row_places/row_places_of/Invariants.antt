use Rattle.std.proofs.Common.{◌≡◌, drop}
use Rattle.std.specs.Option.{option_or}
use Rattle.indexmap.specs.IndexMap.{get}
use Rattle.lk_model.specs.declared.layouts.SectionKey.{SectionKey}
use Rattle.lk_model.specs.SectionKeys.{same_key}
use Rattle.lk_layout.specs.RowNumbers.{row_place_from}
use Rattle.lk_layout.proofs.row_places.row_places_of.Given as goal

abbrev pub invariant-loop-number : goal.invariant-loop-number
invariant-loop-number l = (k : SectionKey) → option_or (get same_key l.row_places k) (row_place_from l.number (drop l.number l.rows) k) ≡ row_place_from 0 l.rows k
