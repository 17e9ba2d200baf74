-- This project's own: rows of sections, one by one.
use Rattle.std.specs.Prelude.{ℕ, ◌+◌, ◌-◌, ◌^◌, List, map, filter, min, not}
use Rattle.lk_model.specs.declared.layouts.SectionRow.{SectionRow}
use Rattle.lk_model.specs.FullPlace.{Extent, greatest, load_base}
use Rattle.lk_model.specs.SectionKeys.{is_alloc}

-- the row of a section that is not loaded, at an offset in the file
abbrev pub unloaded_row : ℕ → Extent → SectionRow
unloaded_row offset extent = record {
  key = extent.key;
  addr = 0;
  offset = offset;
  size = extent.size;
  room = extent.room;
  align = extent.align;
}

-- the extents of sections that are loaded, and of those that are not
abbrev pub loaded_among : List Extent → List Extent
loaded_among extents = filter (λ (extent : Extent). is_alloc extent.key.class) extents

abbrev pub unloaded_among : List Extent → List Extent
unloaded_among extents = filter (λ (extent : Extent). not (is_alloc extent.key.class)) extents

-- where the last room of a loaded section ends in memory
abbrev pub memory_end : List SectionRow → ℕ
memory_end rows = greatest (map (λ (row : SectionRow). row.addr + row.room) (filter (λ (row : SectionRow). is_alloc row.key.class) rows))

-- the memory that rows take
abbrev pub memory_in : List SectionRow → ℕ
memory_in rows = min (2 ^ 64 - 1) (memory_end rows - load_base)
