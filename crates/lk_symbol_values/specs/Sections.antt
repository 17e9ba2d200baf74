-- The rows of output sections, and where the segments end (gABI "Program Header", "Program Loading").
use Rattle.std.specs.Prelude.{ℕ, ◌+◌, ◌%◌, ◌^◌, Bool, not, max, List, filter, fold, map}
use Rattle.lk_model.specs.SectionKeys.{same_class}
use Rattle.lk_model.specs.SectionOrder.{Second, Third, segment_of, same_segment}
use Rattle.lk_model.specs.declared.layouts.Class.TheVariants.{Tbss}
use Rattle.lk_model.specs.declared.layouts.SectionRow.{SectionRow}
use Rattle.lk_symbol_values.specs.declared.sections.Loaded.{Loaded}
use Rattle.lk_symbol_values.specs.declared.sections.Loaded.TheVariants as loaded

-- what a field of eight bytes holds of a number
abbrev pub low_64 : ℕ → ℕ
low_64 n = n % 2 ^ 64

abbrev pub address_of_row : SectionRow → ℕ
address_of_row row = row.addr

-- whether a row is one of a segment's
abbrev pub segment_named : Loaded → SectionRow → Bool
segment_named loaded.Second row = same_segment (segment_of row.key.class) Second
segment_named loaded.Third row = same_segment (segment_of row.key.class) Third

-- the last end of the rooms of these rows that take addresses, or a place that is known to be no later
abbrev pub memory_end_from : ℕ → List SectionRow → ℕ
memory_end_from before rows = fold max before (map (λ (row : SectionRow). row.addr + row.room) (filter (λ (row : SectionRow). not (same_class row.key.class Tbss)) rows))

-- the last end of the rooms of a segment's rows that take addresses, or 0: lk_model's `memory_end`
abbrev pub memory_end_in : Loaded → List SectionRow → ℕ
memory_end_in segment rows = memory_end_from 0 (filter (segment_named segment) rows)
