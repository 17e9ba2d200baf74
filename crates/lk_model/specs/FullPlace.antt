-- This project's own: where a link that is made anew puts everything. Addresses are those of a program
-- that is loaded where it was linked for (gABI "Program Loading"), and may be greater than a field
-- holds: `memory_of` says of it.
use Rattle.std.specs.Prelude.{ℕ, Bool, true, false, if◌then◌else◌, List, [], ◌∷◌, ◌++◌, Option, Some, None, ◌+◌, ◌-◌, ◌^◌, max, min, length, take, map, fold, filter, filter_map, find, option_map, not, ◌||◌}
use Rattle.std.specs.List.{enumerate_from}
use Rattle.lk_model.specs.Amounts.{round_up}
use Rattle.lk_model.specs.SectionKeys.{same_key, same_class, is_alloc, in_file, is_patched, is_numbered_array, least_of, reserved_of}
use Rattle.lk_model.specs.SectionOrder.{Segment, First, segment_of, same_segment, slots_of, table_sizes, section_keys}
use Rattle.lk_model.specs.Rooms.{room_of, patched_offset, patched_end, patched_room, sequence_offset, sequence_end, sequence_of, before_in_sequence}
use Rattle.lk_model.specs.Views.{KeptPiece, Resolved}
use Rattle.lk_model.specs.declared.layouts.Class.{Class}
use Rattle.lk_model.specs.declared.layouts.Class.TheVariants.{Tdata, Tbss}
use Rattle.lk_model.specs.declared.layouts.PieceRow.{PieceRow}
use Rattle.lk_model.specs.declared.layouts.Placement.{Placement}
use Rattle.lk_model.specs.declared.layouts.SectionKey.{SectionKey}
use Rattle.lk_model.specs.declared.layouts.SectionRow.{SectionRow}
use Rattle.lk_model.specs.declared.layouts.SlotTable.{SlotTable}

-- the address at which the first byte of the file is loaded
abbrev pub load_base : ℕ
load_base = 0x400000

-- the address of the first section; the headers are below it
abbrev pub first_address : ℕ
first_address = 0x401000

-- the size of a page
abbrev pub page : ℕ
page = 0x1000

-- how many bytes an output section takes, and at which alignment
pub record Extent : Type 0 where
  pub key : SectionKey
  pub size : ℕ
  pub room : ℕ
  pub align : ℕ

-- the pieces that go to an output section, in the order of the list
abbrev pub pieces_in : SectionKey → List KeptPiece → List KeptPiece
pieces_in key pieces = filter (λ (piece : KeptPiece). same_key piece.key key) pieces

-- the greatest alignment of the pieces, and at least 16
abbrev pub align_of : List KeptPiece → ℕ
align_of pieces = fold (λ align (piece : KeptPiece). max align piece.align) 16 pieces

-- a patched section, all of whose room counts as its size
abbrev pub patched_extent : ℕ → SectionKey → List KeptPiece → Extent
patched_extent patch key pieces =
    let room = patched_room patch (least_of key) (reserved_of key) (patched_end (least_of key) pieces) in
    record { key = key; size = room; room = room; align = align_of pieces }

-- a sequence, which ends with its last piece
abbrev pub sequence_extent : ℕ → SectionKey → List KeptPiece → Extent
sequence_extent patch key pieces =
    let size = sequence_end (sequence_of (is_numbered_array key) pieces) in
    record { key = key; size = size; room = room_of patch size; align = align_of pieces }

-- a table of so many bytes
abbrev pub table_extent : ℕ → SectionKey → ℕ → Extent
table_extent patch key size = record { key = key; size = size; room = room_of patch size; align = 16 }

-- the size of a table among tables with their sizes; `None` where the section is none of them
abbrev pub size_among : List (SectionKey × ℕ) → SectionKey → Option ℕ
size_among sizes key = option_map (λ (row : SectionKey × ℕ). row.1) (find (λ (row : SectionKey × ℕ). same_key key row.0) sizes)

-- the size of a table; `None` where the section is none
abbrev pub table_size : Resolved → SlotTable → SectionKey → Option ℕ
table_size r slots key = size_among (table_sizes r slots) key

abbrev pub pieces_extent : Bool → ℕ → SectionKey → List KeptPiece → Extent
pieces_extent true patch key pieces = patched_extent patch key pieces
pieces_extent false patch key pieces = sequence_extent patch key pieces

abbrev pub extent_with : Option ℕ → ℕ → SectionKey → List KeptPiece → Extent
extent_with (Some size) patch key pieces = table_extent patch key size
extent_with None patch key pieces = pieces_extent (is_patched key) patch key pieces

-- how many bytes an output section of the link takes
unfoldable pub extent_of : Resolved → SlotTable → SectionKey → Extent
extent_of r slots key = extent_with (table_size r slots key) r.options.patch key (pieces_in key r.kept)

-- the greatest of the numbers, or 0
abbrev pub greatest : List ℕ → ℕ
greatest numbers = fold max 0 numbers

-- whether it is thread-local
abbrev pub is_thread : Class → Bool
is_thread class = same_class class Tdata || same_class class Tbss

-- the greater alignment of the thread-local sections (gABI "Thread-Local Storage"), or 0: the one that
-- comes first is at a multiple of it
abbrev pub thread_align : List Extent → ℕ
thread_align extents =
    greatest (map (λ (extent : Extent). extent.align) (filter (λ (extent : Extent). is_thread extent.key.class) extents))

-- the alignment of a section's address
abbrev pub address_align : ℕ → Extent → ℕ
address_align thread extent = if same_class extent.key.class Tdata then max thread extent.align else extent.align

-- where a section may begin: where the one before it ends, or at the next page in a new segment
abbrev pub begin_from : Segment → Class → ℕ → ℕ
begin_from segment class at = if same_segment segment (segment_of class) then at else round_up at page

-- the row of a loaded section
abbrev pub loaded_row : ℕ → Extent → SectionRow
loaded_row address extent =
    record {
      key = extent.key;
      addr = address;
      offset = address - load_base;
      size = extent.size;
      room = extent.room;
      align = extent.align;
    }

-- where the next section may begin; the thread-local zeros take no addresses
abbrev pub next_address : ℕ → ℕ → Extent → ℕ
next_address begin address extent = if same_class extent.key.class Tbss then begin else address + extent.room

-- the rows of loaded sections, from an address on, after a section of that segment
abbrev pub loaded_rows : ℕ → Segment → ℕ → List Extent → List SectionRow
loaded_rows thread segment at [] = []
loaded_rows thread segment at (extent ∷ extents) =
    let begin = begin_from segment extent.key.class at in
    let address = round_up begin (address_align thread extent) in
    loaded_row address extent
    ∷ loaded_rows thread (segment_of extent.key.class) (next_address begin address extent) extents

-- the rows of sections that are not loaded, from an offset in the file on
abbrev pub unloaded_rows : ℕ → List Extent → List SectionRow
unloaded_rows at [] = []
unloaded_rows at (extent ∷ extents) =
    let offset = round_up at extent.align in
    let row : SectionRow = record {
      key = extent.key;
      addr = 0;
      offset = offset;
      size = extent.size;
      room = extent.room;
      align = extent.align;
    } in
    row ∷ unloaded_rows (offset + extent.room) extents

-- where the last room ends that the file holds
abbrev pub file_end : List SectionRow → ℕ
file_end rows = greatest (map (λ (row : SectionRow). row.offset + row.room) (filter (λ (row : SectionRow). in_file row.key.class) rows))

-- the rows of sections in their order
unfoldable pub rows_of : List Extent → List SectionRow
rows_of extents =
    let loaded = loaded_rows (thread_align extents) First first_address (filter (λ (extent : Extent). is_alloc extent.key.class) extents) in
    loaded ++ unloaded_rows (file_end loaded) (filter (λ (extent : Extent). not (is_alloc extent.key.class)) extents)

-- the offset of a piece in a patched section: a terminator is in the reserved bytes
abbrev pub offset_in_patched : SectionRow → List KeptPiece → KeptPiece → ℕ
offset_in_patched row earlier piece =
    let least = least_of row.key in
    if piece.terminator then row.room - 4 else patched_offset least (patched_end least earlier) piece

-- the offset of a piece in a sequence
abbrev pub offset_in_sequence : SectionKey → List KeptPiece → List KeptPiece → KeptPiece → ℕ
offset_in_sequence key all earlier piece = sequence_offset (sequence_end (before_in_sequence (is_numbered_array key) all earlier piece)) piece

abbrev pub offset_by_kind : Bool → SectionRow → List KeptPiece → List KeptPiece → KeptPiece → ℕ
offset_by_kind true row all earlier piece = offset_in_patched row (pieces_in row.key earlier) piece
offset_by_kind false row all earlier piece = offset_in_sequence row.key (pieces_in row.key all) (pieces_in row.key earlier) piece

-- the offset of a piece in its output section: `all` are the kept pieces, `earlier` those before it
abbrev pub offset_in : SectionRow → List KeptPiece → List KeptPiece → KeptPiece → ℕ
offset_in row all earlier piece = offset_by_kind (is_patched row.key) row all earlier piece

-- the section row of a key, with its number
abbrev pub numbered_row : List SectionRow → SectionKey → Option (ℕ × SectionRow)
numbered_row rows key = find (λ (entry : ℕ × SectionRow). same_key entry.1.key key) (enumerate_from 0 rows)

-- a piece in a row, at an offset
abbrev pub placed_at : KeptPiece → ℕ → SectionRow → ℕ → PieceRow
placed_at piece number row offset =
    record {
      piece = piece.piece;
      section = number;
      addr = row.addr + offset;
      size = piece.size;
      align = piece.align;
    }

-- the row of a piece; `None` where its output section has no row
abbrev pub piece_row : List SectionRow → List KeptPiece → List KeptPiece → KeptPiece → Option PieceRow
piece_row rows all earlier piece =
    option_map (λ (entry : ℕ × SectionRow). placed_at piece entry.0 entry.1 (offset_in entry.1 all earlier piece)) (numbered_row rows piece.key)

-- the rows of the kept pieces, in their order
unfoldable pub piece_rows : List SectionRow → List KeptPiece → List PieceRow
piece_rows rows kept =
    filter_map (λ (entry : ℕ × KeptPiece). piece_row rows kept (take entry.0 kept) entry.1) (enumerate_from 0 kept)

-- where a link that is made anew puts everything
unfoldable pub full_place : Resolved → Placement
full_place r =
    let slots = slots_of r.needs in
    let rows = rows_of (map (extent_of r slots) (section_keys r)) in
    record { sections = rows; pieces = piece_rows rows r.kept; slots = slots }

-- where the loaded part of the file and the sections that are not loaded end
abbrev pub tail_start : Placement → ℕ
tail_start place = file_end place.sections

-- the memory that a placement takes, from the load base to the greatest end of a loaded room; what is
-- greater than a field holds is written as the greatest that it holds
unfoldable pub memory_of : Placement → ℕ
memory_of place =
    let ends = map (λ (row : SectionRow). row.addr + row.room) (filter (λ (row : SectionRow). is_alloc row.key.class) place.sections) in
    min (2 ^ 64 - 1) (greatest ends - load_base)

-- the number of output sections
abbrev pub section_count : Placement → ℕ
section_count place = length place.sections
