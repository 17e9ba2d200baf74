-- This project's own: where an update puts everything, or the first cause why the earlier image cannot
-- take it. Every output section keeps its address, its place in the file, its room and its alignment;
-- pieces that are not done anew stay where they are.
use Rattle.std.specs.Prelude.{ℕ, ◌-◌, ◌^◌, not, ◌&&◌, Bool, true, false, List, [], ◌∷◌, ◌++◌, map, filter, filter_map, flat_map, max, min, nat_lt, Option, Some, None, Result, Ok, Err}
use Rattle.std.specs.List.{enumerate_from, list_any}
use Rattle.lk_report.specs.declared.causes.Cause.{Cause}
use Rattle.lk_report.specs.declared.causes.Cause.TheVariants as cause
use Rattle.lk_model.specs.Changes.{redone_of}
use Rattle.lk_model.specs.FullPlace.{numbered_row, pieces_in}
use Rattle.lk_model.specs.Holes.{holes_of}
use Rattle.lk_model.specs.Placing.{Attempt, attempt_of}
use Rattle.lk_model.specs.Rooms.{sequence_end, sequence_of}
use Rattle.lk_model.specs.SectionKeys.{same_key, is_numbered_array, is_patched, least_of}
use Rattle.lk_model.specs.SectionOrder.{in_order, table_sizes}
use Rattle.lk_model.specs.Views.{KeptPiece, Resolved}
use Rattle.lk_model.specs.declared.layouts.Hole.{Hole}
use Rattle.lk_model.specs.declared.layouts.Placement.{Placement}
use Rattle.lk_model.specs.declared.layouts.SectionKey.{SectionKey}
use Rattle.lk_model.specs.declared.layouts.SectionRow.{SectionRow}
use Rattle.lk_model.specs.declared.layouts.SlotTable.{SlotTable}
use Rattle.lk_model.specs.declared.records.Records.{Records}

-- ---- the causes, each kind as the list of all that hold, in its order

-- whether an output section is not in the earlier image
abbrev pub is_new : List SectionRow → SectionKey → Bool
is_new rows key = not (list_any (λ (row : SectionRow). same_key row.key key) rows)

-- the output sections that a link needs: those of its pieces, in the order of the pieces, then its
-- tables in section order
abbrev pub needed_sections : Resolved → SlotTable → List SectionKey
needed_sections r slots =
    map (λ (k : KeptPiece). k.key) r.kept
    ++ in_order (map (λ (table : SectionKey × ℕ). table.0) (table_sizes r slots))

-- needed output sections that the earlier image does not have
abbrev pub new_sections : Resolved → Placement → List Cause
new_sections r place =
    map (λ (key : SectionKey). cause.NewSection key.name) (filter (is_new place.sections) (needed_sections r place.slots))

-- a piece whose alignment exceeds that of its output section
abbrev pub more_align : Placement → KeptPiece → Option Cause
more_align place k = elim (numbered_row place.sections k.key) [
  | None ↦ None
  | Some (number, row) ↦ elim (nat_lt row.align k.align) [
    | true ↦ Some (cause.MoreAlign k.key.name row.align k.align)
    | false ↦ None
  ]
]

-- a piece that no hole takes
abbrev pub no_room : KeptPiece → Cause
no_room k = cause.NoRoom k.key.name k.size k.align

-- the holes of a patched section that cannot be filled
abbrev pub small_holes : Placement → ℕ × SectionRow → List Cause
small_holes place (number, row) = elim (is_patched row.key) [
  | false ↦ []
  | true ↦
      map (λ (hole : Hole). cause.SmallHole row.key.name hole.length)
      (filter (λ (hole : Hole). nat_lt hole.length (least_of row.key)) (holes_of place number))
]

-- how long a table or a sequence is: that of its table, or where its last piece ends
abbrev pub need_of : Resolved → SectionRow → ℕ
need_of r row = max row.size (sequence_end (sequence_of (is_numbered_array row.key) (pieces_in row.key r.kept)))

-- a table or a sequence that is longer than its room; what a field does not hold is written as the
-- greatest that it holds
abbrev pub no_table_room : Resolved → SectionRow → Option Cause
no_table_room r row = elim (not (is_patched row.key) && nat_lt row.room (need_of r row)) [
  | true ↦ Some (cause.NoTableRoom row.key.name (min (2 ^ 64 - 1) (need_of r row)) row.room)
  | false ↦ None
]

-- the causes why an attempt is no placement, in their order
unfoldable pub attempt_causes : Resolved → Attempt → List Cause
attempt_causes r attempt =
    new_sections r attempt.place
    ++ filter_map (more_align attempt.place) r.kept
    ++ map no_room attempt.unplaced
    ++ flat_map (small_holes attempt.place) (enumerate_from 0 attempt.place.sections)
    ++ filter_map (no_table_room r) attempt.place.sections

-- ---- the placement

-- the first cause, or the placement where there is none
abbrev pub place_unless : List Cause → Placement → Result Placement Cause
place_unless [] place = Ok place
place_unless (c ∷ causes) place = Err c

-- where an update puts everything that does these inputs anew
unfoldable pub update_place_with : Records → List ℕ → Resolved → Result Placement Cause
update_place_with base redone r =
    let attempt = attempt_of base redone r in
    place_unless (attempt_causes r attempt) attempt.place

-- where an update puts everything, or the first cause from a new section to a table without room
unfoldable pub update_place : Records → Resolved → Result Placement Cause
update_place base r = update_place_with base (redone_of base r) r
