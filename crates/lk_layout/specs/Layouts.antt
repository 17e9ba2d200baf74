-- This project's own: the answer of the layout of a link.
use Rattle.std.specs.Prelude.{◌≡◌, ℕ, ◌≤◌, ◌^◌, nat_lt, if◌then◌else◌, List, ◌++◌, map, Option, Some, None, Result, Ok, Err}
use Rattle.lk_report.specs.declared.statuses.LimitFault.{LimitFault}
use Rattle.lk_report.specs.declared.statuses.LimitKind.TheVariants as limit
use Rattle.lk_model.specs.declared.layouts.LayoutFault.{LayoutFault}
use Rattle.lk_model.specs.declared.layouts.LayoutFault.TheVariants as fault
use Rattle.lk_model.specs.declared.layouts.Placement.{Placement}
use Rattle.lk_model.specs.declared.layouts.SectionKey.{SectionKey}
use Rattle.lk_model.specs.declared.layouts.SectionRow.{SectionRow}
use Rattle.lk_model.specs.declared.layouts.SlotTable.{SlotTable}
use Rattle.lk_model.specs.FullPlace.{Extent, extent_with, full_place, memory_of, piece_rows, pieces_in, rows_of, section_count, size_among}
use Rattle.lk_model.specs.SectionOrder.{in_order}
use Rattle.lk_model.specs.Views.{KeptPiece, Resolved}
use Rattle.lk_layout.specs.Grouping.{keys_of}

-- the greatest number of output sections of a link, and the most memory that it takes
abbrev pub most_sections : ℕ
most_sections = 60000

abbrev pub most_memory : ℕ
most_memory = 2 ^ 31

-- the first limit that a placement exceeds: output sections, then memory
abbrev pub layout_limit : Placement → Option LimitFault
layout_limit place =
    if nat_lt most_sections (section_count place) then Some (record { which = limit.Sections; number = section_count place })
    else if nat_lt most_memory (memory_of place) then Some (record { which = limit.Memory; number = memory_of place })
    else None

-- the answer of the layout, where this is the placement; out of memory may come at any time
abbrev pub PlaceGives : Placement → Result Placement LayoutFault → Type 0
PlaceGives full (Ok place) = (section_count full ≤ most_sections) × (memory_of full ≤ most_memory) × (place ≡ full)
PlaceGives full (Err (fault.Limit l)) = layout_limit full ≡ Some l
PlaceGives full (Err fault.NoMemory) = Unit {0}

-- the answer of the layout of a link, where resolution finds this
abbrev pub LayoutGives : Resolved → Result Placement LayoutFault → Type 0
LayoutGives r result = PlaceGives (full_place r) result

-- kept pieces in rows of sections
abbrev pub place_in : List SectionRow → List KeptPiece → SlotTable → Placement
place_in rows kept slots = record { sections = rows; pieces = piece_rows rows kept; slots = slots }

-- the output sections of kept pieces and of tables, in their order
abbrev pub keys_under : List KeptPiece → List (SectionKey × ℕ) → List SectionKey
keys_under kept sizes = in_order (keys_of kept ++ map (λ (table : SectionKey × ℕ). table.0) sizes)

-- how many bytes a section takes
abbrev pub extent_in : ℕ → List KeptPiece → List (SectionKey × ℕ) → SectionKey → Extent
extent_in patch kept sizes key = extent_with (size_among sizes key) patch key (pieces_in key kept)

-- where a link with this room for growth puts kept pieces, and its tables of these sizes
unfoldable pub placement_of : ℕ → List KeptPiece → List (SectionKey × ℕ) → SlotTable → Placement
placement_of patch kept sizes slots = place_in (rows_of (map (extent_in patch kept sizes) (keys_under kept sizes))) kept slots
