-- This project's own: the first row of each key, found row by row.
use Rattle.std.specs.Prelude.{ℕ, cond, List, Option, Some, None, option_map, find}
use Rattle.std.specs.List.{enumerate_from}
use Rattle.lk_model.specs.declared.layouts.SectionKey.{SectionKey}
use Rattle.lk_model.specs.declared.layouts.SectionRow.{SectionRow}
use Rattle.lk_model.specs.SectionKeys.{same_key}
use Rattle.lk_layout.specs.declared.row_places.RowPlace.{RowPlace}
use Rattle.lk_layout.specs.PieceRows.{row_place_after}

-- the first row of the key `k`, once a row of `key` was noted
abbrev pub row_place_noted : Option RowPlace → SectionKey → RowPlace → SectionKey → Option RowPlace
row_place_noted (Some h) key row_place k = Some h
row_place_noted None key row_place k = cond (same_key k key) (Some row_place) None

-- the first row of a key, among rows that are numbered from a first number on
abbrev pub row_place_from : ℕ → List SectionRow → SectionKey → Option RowPlace
row_place_from n rows key = option_map row_place_after (find (λ (entry : ℕ × SectionRow). same_key entry.1.key key) (enumerate_from n rows))
