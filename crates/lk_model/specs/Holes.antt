-- This project's own: the holes of a section, which are the longest runs of its room that nothing
-- covers, and the bytes that fill them. Offsets count from the section's start.
use Rattle.std.specs.Prelude.{ℕ, Bool, true, false, if◌then◌else◌, List, [], ◌∷◌, ◌++◌, Option, Some, None, ◌+◌, ◌-◌, ◌==◌, nat_lt, max, min, map, fold, filter, flat_map, replicate}
use Rattle.std.specs.List.{slice_get}
use Rattle.lk_elf.specs.Fields.{bytes_of}
use Rattle.lk_model.specs.SectionKeys.{is_table, is_patched, is_executable, fill_kind, reserved_of}
use Rattle.lk_model.specs.declared.layouts.FillKind.{FillKind}
use Rattle.lk_model.specs.declared.layouts.FillKind.TheVariants as fill
use Rattle.lk_model.specs.declared.layouts.Hole.{Hole}
use Rattle.lk_model.specs.declared.layouts.PieceRow.{PieceRow}
use Rattle.lk_model.specs.declared.layouts.Placement.{Placement}
use Rattle.lk_model.specs.declared.layouts.SectionKey.{SectionKey}
use Rattle.lk_model.specs.declared.layouts.SectionRow.{SectionRow}

-- the hole from one place to another, where there is a byte between
abbrev pub hole_between : ℕ → ℕ → List Hole
hole_between start end = if nat_lt start end then record { start = start; length = end - start } ∷ [] else []

-- what is left of a hole where these bytes are taken from it
abbrev pub without_one : ℕ → ℕ → Hole → List Hole
without_one start length hole =
    hole_between hole.start (min start (hole.start + hole.length))
    ++ hole_between (max hole.start (start + length)) (hole.start + hole.length)

-- what is left of the holes; no bytes take nothing
abbrev pub without : List Hole → Hole → List Hole
without holes taken = if taken.length == 0 then holes else flat_map (without_one taken.start taken.length) holes

-- the bytes that the pieces of section `number` cover
abbrev pub covered_by_pieces : Placement → ℕ → SectionRow → List Hole
covered_by_pieces place number row =
    map (λ (piece : PieceRow). record { start = piece.addr - row.addr; length = piece.size })
    (filter (λ (piece : PieceRow). piece.section == number) place.pieces)

-- the bytes at the end that are kept free of pieces
abbrev pub reserved_end : SectionRow → Hole
reserved_end row = record { start = row.room - reserved_of row.key; length = reserved_of row.key }

-- the bytes that a table covers
abbrev pub covered_by_table : SectionRow → List Hole
covered_by_table row = if is_table row.key then record { start = 0; length = row.size } ∷ [] else []

-- all that covers bytes of a section's room
abbrev pub covered : Placement → ℕ → SectionRow → List Hole
covered place number row = reserved_end row ∷ covered_by_table row ++ covered_by_pieces place number row

abbrev pub holes_in : Placement → ℕ → Option SectionRow → List Hole
holes_in place number None = []
holes_in place number (Some row) = fold without (hole_between 0 row.room) (covered place number row)

-- the holes of the section of that number, by rising start
unfoldable pub holes_of : Placement → ℕ → List Hole
holes_of place number = holes_in place number (slice_get place.sections number)

-- the bytes of a hole of a patched section: an entry of the frame table that describes nothing, or a
-- debug unit that is empty (DWARF 4, "Unit Headers"), takes the whole hole
unfoldable pub fill_bytes : FillKind → ℕ → List ℕ
fill_bytes fill.Zero length = replicate length 0
fill_bytes fill.Trap length = replicate length 0xcc
fill_bytes fill.Frame length =
    bytes_of 4 (length - 4)
    ++ bytes_of 4 0
    ++ 1 ∷ 0 ∷ 1 ∷ 0x78 ∷ 0x10 ∷ replicate (length - 13) 0
fill_bytes fill.Unit length =
    bytes_of 4 (length - 4)
    ++ 4 ∷ 0 ∷ bytes_of 4 0
    ++ 8 ∷ replicate (length - 11) 0

-- the byte in the gaps between the pieces of a sequence
abbrev pub gap_byte : SectionKey → ℕ
gap_byte key = if is_executable key.class then 0x90 else 0

-- the byte past the end of a table or a sequence
abbrev pub past_byte : SectionKey → ℕ
past_byte key = if is_executable key.class then 0xcc else 0

-- the bytes of a hole of a table or a sequence, which ends at the row's size
abbrev pub sequence_hole_bytes : SectionRow → Hole → List ℕ
sequence_hole_bytes row hole =
    let end = hole.start + hole.length in
    replicate (min end row.size - hole.start) (gap_byte row.key)
    ++ replicate (end - max hole.start row.size) (past_byte row.key)

abbrev pub hole_bytes_by_kind : Bool → SectionRow → Hole → List ℕ
hole_bytes_by_kind true row hole = fill_bytes (fill_kind row.key) hole.length
hole_bytes_by_kind false row hole = sequence_hole_bytes row hole

-- the bytes of a hole of a section
unfoldable pub hole_bytes : SectionRow → Hole → List ℕ
hole_bytes row hole = hole_bytes_by_kind (is_patched row.key) row hole
