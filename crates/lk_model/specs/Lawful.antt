-- This project's own: when a placement is one that a link of these inputs may have, made anew or kept
-- up to date. A row without a piece may be left over from an earlier link.
use Rattle.std.specs.Prelude.{is_some, ◌≡◌, ℕ, Bool, true, false, IsTrue, if◌then◌else◌, List, [], ◌∷◌, Option, Some, None, ◌+◌, ◌%◌, ◌==◌, ◌&&◌, ◌||◌, not, nat_le, take, map, filter, zip, count_by, ⊤}
use Rattle.std.specs.List.{AllByRecursion, IsDistinct, enumerate_from, list_all, list_any, slice_get}
use Rattle.lk_model.specs.SectionKeys.{same_key, is_table, same_class, is_alloc, in_file, is_patched, is_numbered_array, least_of, reserved_of}
use Rattle.lk_model.specs.SectionOrder.{in_order, table_sizes, table_sizes_among}
use Rattle.lk_model.specs.Rooms.{sequence_end, sequence_of}
use Rattle.lk_model.specs.FullPlace.{Extent, extent_of, pieces_in, table_size, size_among, rows_of, offset_in_sequence}
use Rattle.lk_model.specs.Holes.{holes_of}
use Rattle.lk_model.specs.Keys.{same_got, is_slot_of}
use Rattle.lk_model.specs.Views.{KeptPiece, Resolved}
use Rattle.lk_model.specs.declared.layouts.Class.TheVariants.{Tbss}
use Rattle.lk_model.specs.declared.layouts.GotKey.{GotKey}
use Rattle.lk_model.specs.declared.layouts.Hole.{Hole}
use Rattle.lk_model.specs.declared.layouts.PieceId.{PieceId}
use Rattle.lk_model.specs.declared.layouts.PieceRow.{PieceRow}
use Rattle.lk_model.specs.declared.layouts.Placement.{Placement}
use Rattle.lk_model.specs.declared.layouts.SectionKey.{SectionKey}
use Rattle.lk_model.specs.declared.layouts.SectionRow.{SectionRow}
use Rattle.lk_model.specs.declared.layouts.SlotTable.{SlotTable}

-- R holds of each item and each later one
abbrev pub Pairs : {A : Type 0} → (A → A → Type 0) → List A → Type 0
Pairs R [] = ⊤
Pairs R (x ∷ xs) = AllByRecursion (R x) xs × Pairs R xs

-- what a placed piece says of the kept piece
abbrev pub as_kept : KeptPiece → PieceId × ℕ × ℕ
as_kept piece = (piece.piece, piece.size, piece.align)

abbrev pub as_placed : PieceRow → PieceId × ℕ × ℕ
as_placed row = (row.piece, row.size, row.align)

-- whether a slot is free or that of a key of the list
abbrev pub is_free_or_of : List GotKey → Option GotKey → Bool
is_free_or_of keys None = true
is_free_or_of keys (Some key) = list_any (same_got key) keys

-- each key has exactly one slot, and no slot is that of another key
abbrev pub slots_are : List GotKey → List (Option GotKey) → Bool
slots_are keys slots =
    list_all (λ key. count_by (is_slot_of key) slots == 1) keys
    && list_all (is_free_or_of keys) slots

-- each name has exactly one entry, and no entry is that of another name; the numbers of the entries are
-- their places in the list
abbrev pub entries_are : List ℕ → List ℕ → Bool
entries_are names entries =
    list_all (λ name. count_by (λ entry. entry == name) entries == 1) names
    && list_all (λ entry. list_any (λ name. name == entry) names) entries

-- a kept piece with its number and where it is placed
abbrev pub Placed : Type 0
Placed = ℕ × (KeptPiece × PieceRow)

-- the kept pieces with their places
abbrev pub placed_of : Resolved → Placement → List Placed
placed_of r place = enumerate_from 0 (zip r.kept place.pieces)

abbrev pub row_passes : (SectionRow → Bool) → Option SectionRow → Bool
row_passes test None = false
row_passes test (Some row) = test row

-- the piece has a row, and the row passes the test
abbrev pub RowOf : Placement → PieceRow → (SectionRow → Bool) → Type 0
RowOf place piece test = IsTrue (row_passes test (slice_get place.sections piece.section))

-- the bytes from one place to another share none with those from a third to a fourth
abbrev pub share_nothing : ℕ → ℕ → ℕ → ℕ → Bool
share_nothing start size other_start other_size =
    size == 0 || other_size == 0 || nat_le (start + size) other_start || nat_le (other_start + other_size) start

-- two pieces share no byte of an output section
abbrev pub pieces_apart : PieceRow → PieceRow → Bool
pieces_apart a b = not (a.section == b.section) || share_nothing a.addr a.size b.addr b.size

-- two rooms share no address
abbrev pub addresses_apart : SectionRow → SectionRow → Bool
addresses_apart a b = share_nothing a.addr a.room b.addr b.room

-- two rooms share no byte of the file
abbrev pub offsets_apart : SectionRow → SectionRow → Bool
offsets_apart a b = share_nothing a.offset a.room b.offset b.room

-- the place of an empty piece in a row: at its start, and a terminator's before its last four bytes
abbrev pub empty_is_at : SectionRow → KeptPiece → PieceRow → Bool
empty_is_at row kept piece =
    if kept.terminator then piece.addr + 4 == row.addr + row.room else piece.addr == row.addr

-- every hole of a patched section can be filled
abbrev pub holes_are_fillable : Placement → ℕ → SectionRow → Bool
holes_are_fillable place number row =
    not (is_patched row.key) || list_all (λ (hole : Hole). nat_le (least_of row.key) hole.length) (holes_of place number)

-- a piece of a sequence is where it is in the sequence of its section's pieces
abbrev pub is_in_sequence : List KeptPiece → ℕ → KeptPiece → PieceRow → SectionRow → Bool
is_in_sequence kept number piece placed row =
    is_patched row.key
    || placed.addr == row.addr + offset_in_sequence row.key (pieces_in row.key kept) (pieces_in row.key (take number kept)) piece

abbrev pub size_with : Option ℕ → Resolved → SectionRow → ℕ
size_with (Some size) r row = size
size_with None r row =
    if is_patched row.key then row.room else sequence_end (sequence_of (is_numbered_array row.key) (pieces_in row.key r.kept))

-- the tables of a placement with their sizes, which its rows decide: `.dynamic` names the arrays that
-- are there, one left over from an earlier link too
abbrev pub table_sizes_at : Resolved → Placement → List (SectionKey × ℕ)
table_sizes_at r place = table_sizes_among (map (λ (row : SectionRow). row.key) place.sections) r place.slots

-- the size of a section: that of its table, its room where it is patched, else where its last piece ends
abbrev pub size_of : Resolved → Placement → SectionRow → ℕ
size_of r place row = size_with (size_among (table_sizes_at r place) row.key) r row

-- the extent of a row
abbrev pub extent_of_row : SectionRow → Extent
extent_of_row row = record { key = row.key; size = row.size; room = row.room; align = row.align }

-- whether a row is no table that the link does not make; a kept piece may have a table's name
abbrev pub is_no_strange_table : Resolved → SlotTable → SectionRow → Bool
is_no_strange_table r slots row =
    not (is_table row.key) || is_some (table_size r slots row.key) || list_any (λ (piece : KeptPiece). same_key piece.key row.key) r.kept

-- whether a row is aligned to what its pieces ask for, and to 16
abbrev pub is_aligned_enough : Resolved → SlotTable → SectionRow → Bool
is_aligned_enough r slots row = nat_le (extent_of r slots row.key).align row.align

pub record Lawful (r : Resolved) (place : Placement) : Type 0 where
  -- the placed pieces are exactly the kept ones
  pub kept : map as_placed place.pieces ≡ map as_kept r.kept
  -- the GOT slots are exactly those that are needed, each once
  pub slots : IsTrue (slots_are r.needs.got place.slots.got)
  -- the PLT entries are exactly those that are needed, each once
  pub entries : IsTrue (entries_are r.needs.plt place.slots.plt)
  -- each piece is in its output section
  pub in_section : AllByRecursion (λ (p : Placed). RowOf place p.1.1 (λ row. same_key row.key p.1.0.key)) (placed_of r place)
  -- it lies in the room
  pub in_room : AllByRecursion (λ (piece : PieceRow). RowOf place piece (λ row. nat_le row.addr piece.addr && nat_le (piece.addr + piece.size) (row.addr + row.room))) place.pieces
  -- it is at a multiple of its alignment; a terminator is where its section ends
  pub aligned : AllByRecursion (λ (p : Placed). IsTrue (p.1.0.terminator || p.1.1.addr % p.1.1.align == 0)) (placed_of r place)
  -- no two pieces share a byte
  pub pieces_share_nothing : Pairs (λ a b. IsTrue (pieces_apart a b)) place.pieces
  -- every hole of a patched section can be filled
  pub fillable : AllByRecursion (λ (entry : ℕ × SectionRow). IsTrue (holes_are_fillable place entry.0 entry.1)) (enumerate_from 0 place.sections)
  -- an empty piece of a patched section is at its start, and a terminator in its reserved end
  pub empties : AllByRecursion (λ (p : Placed). RowOf place p.1.1 (λ row. not (is_patched row.key) || not (p.1.0.size == 0) || empty_is_at row p.1.0 p.1.1)) (placed_of r place)
  -- no piece covers the reserved end
  pub end_is_free : AllByRecursion (λ (piece : PieceRow). RowOf place piece (λ row. nat_le (piece.addr + piece.size + reserved_of row.key) (row.addr + row.room))) place.pieces
  -- any other section is the sequence of its pieces
  pub sequences : AllByRecursion (λ (p : Placed). RowOf place p.1.1 (is_in_sequence r.kept p.0 p.1.0 p.1.1)) (placed_of r place)
  -- each section has its size, which is at most its room
  pub sizes : AllByRecursion (λ (row : SectionRow). IsTrue (row.size == size_of r place row && nat_le row.size row.room)) place.sections
  -- the tables are there
  pub tables : AllByRecursion (λ (table : SectionKey × ℕ). IsTrue (list_any (λ (row : SectionRow). same_key row.key table.0) place.sections)) (table_sizes r place.slots)
  -- no other table is there
  pub no_other_tables : AllByRecursion (λ (row : SectionRow). IsTrue (is_no_strange_table r place.slots row)) place.sections
  -- each section is aligned at least to the greatest alignment of its pieces, and to 16
  pub alignments : AllByRecursion (λ (row : SectionRow). IsTrue (is_aligned_enough r place.slots row)) place.sections
  -- the rooms of loaded sections share no address; the thread-local zeros take none
  pub addresses_share_nothing : Pairs (λ a b. IsTrue (addresses_apart a b)) (filter (λ (row : SectionRow). is_alloc row.key.class && not (same_class row.key.class Tbss)) place.sections)
  -- the rooms that the file holds share no byte of it
  pub offsets_share_nothing : Pairs (λ a b. IsTrue (offsets_apart a b)) (filter (λ (row : SectionRow). in_file row.key.class) place.sections)
  -- the sections are different ones and are in their order
  pub distinct : IsDistinct same_key (map (λ (row : SectionRow). row.key) place.sections)
  pub ordered : in_order (map (λ (row : SectionRow). row.key) place.sections) ≡ map (λ (row : SectionRow). row.key) place.sections
  -- addresses and offsets are those that the rows' rooms and alignments give, from the first segment on
  pub places : rows_of (map extent_of_row place.sections) ≡ place.sections
