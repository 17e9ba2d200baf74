-- Where the segments of an image end (gABI "Program Header", "Program Loading"), over its section rows.
use Rattle.std.specs.Prelude.{ℕ, Bool, true, false, List, [], ◌∷◌, filter, fold, map, max, not, ◌+◌}
use Rattle.lk_model.specs.SectionKeys.{in_file, same_class}
use Rattle.lk_model.specs.SectionOrder.{Segment, First, Second, Third, segment_of, same_segment}
use Rattle.lk_model.specs.declared.layouts.Class.TheVariants.{Tbss}
use Rattle.lk_model.specs.declared.layouts.SectionRow.{SectionRow}
use Rattle.lk_headers.specs.declared.segments.Loaded.{Loaded}
use Rattle.lk_headers.specs.declared.segments.Loaded.TheVariants as loaded
use Rattle.lk_headers.specs.declared.segments.Side.{Side}
use Rattle.lk_headers.specs.declared.segments.Side.TheVariants as side

-- the segment that is meant
abbrev pub segment_named : Loaded → Segment
segment_named loaded.First = First
segment_named loaded.Second = Second
segment_named loaded.Third = Third

-- whether a section of this class is one of a segment's
abbrev pub is_in_segment : Loaded → SectionRow → Bool
is_in_segment loaded row = same_segment (segment_of row.key.class) (segment_named loaded)

-- whether a list has an item
abbrev pub has_items : {X : Type 0} → List X → Bool
has_items [] = false
has_items (x ∷ xs) = true

-- the rows of a segment
abbrev pub rows_in : Loaded → List SectionRow → List SectionRow
rows_in loaded rows = filter (is_in_segment loaded) rows

-- whether a room counts for the end in the file, or in memory
abbrev pub counts_for : Side → SectionRow → Bool
counts_for side.File row = in_file row.key.class
counts_for side.Memory row = not (same_class row.key.class Tbss)

-- where a room ends in memory
abbrev pub room_end : SectionRow → ℕ
room_end row = row.addr + row.room

-- where the last of these rooms ends that counts, or a place that is known to be no later
abbrev pub end_after : Side → ℕ → List SectionRow → ℕ
end_after side before rows = fold max before (map room_end (filter (counts_for side) rows))

-- where the last of these rooms ends that counts, or 0: lk_model's `stored_end` and `memory_end`
abbrev pub end_on : Side → List SectionRow → ℕ
end_on side rows = end_after side 0 rows
