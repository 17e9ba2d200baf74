-- What a record is refused for, beside the numbers of its own list (this project's own): rows that two
-- of a kind may not share, places that lie outside, and numbers that no file has (gABI "Symbol Table").
use Rattle.std.specs.Prelude.{ℕ, ◌+◌, ◌^◌, ◌==◌, ◌&&◌, ◌||◌, not, Bool, true, List, Option, Some, None, nat_lt, nat_le, slice_get, codes, is_none}
use Rattle.std.specs.List.{list_any, list_all, range_with_len}
use Rattle.lk_elf.specs.Numbers.{stb_global, stb_weak, stv_protected}
use Rattle.lk_model.specs.Checks.{is_some_with}
use Rattle.lk_model.specs.InputsReading.{ReadPiece}
use Rattle.lk_model.specs.Lawful.{addresses_apart, offsets_apart, pieces_apart}
use Rattle.lk_model.specs.SectionKeys.{same_key, named, is_alloc, in_file, reserved_of}
use Rattle.lk_model.specs.declared.layouts.Class.TheVariants.{Tbss}
use Rattle.lk_model.specs.declared.layouts.PieceRow.{PieceRow}
use Rattle.lk_model.specs.declared.layouts.SectionRow.{SectionRow}
use Rattle.lk_model.specs.declared.summaries.Global.{Global}
use Rattle.lk_model.specs.declared.summaries.Home.{Home}
use Rattle.lk_model.specs.declared.summaries.Home.TheVariants as home

-- a power of two that a field of eight bytes holds, which an alignment is
abbrev pub is_field_power : ℕ → Bool
is_field_power n = list_any (λ k. 2 ^ k == n) (range_with_len 0 64)

-- ---- output sections

-- whether the addresses of a row's room are its own: it is loaded, and not the thread-local zeros
abbrev pub has_own_addresses : SectionRow → Bool
has_own_addresses row = is_alloc row.key.class && not (same_key row.key (named (codes ".tbss") Tbss))

-- whether no address is in the rooms of both
abbrev pub share_no_address : SectionRow → SectionRow → Bool
share_no_address row earlier = not (has_own_addresses row) || not (has_own_addresses earlier) || addresses_apart row earlier

-- whether no byte of the file is in the rooms of both
abbrev pub share_no_file_byte : SectionRow → SectionRow → Bool
share_no_file_byte row earlier = not (in_file row.key.class) || not (in_file earlier.key.class) || offsets_apart row earlier

-- whether a row can be beside an earlier one: another key, and rooms apart
abbrev pub row_is_beside : SectionRow → SectionRow → Bool
row_is_beside row earlier = not (same_key row.key earlier.key) && share_no_address row earlier && share_no_file_byte row earlier

-- whether the end of a room is a number that a field holds
abbrev pub ends_in_bounds : ℕ → ℕ → Bool
ends_in_bounds start room = nat_lt (start + room) (2 ^ 64)

-- the first place in the file where a room may be: what is before it are the headers and the seal
abbrev pub first_offset : ℕ
first_offset = 4096

-- whether the room has a place in the file, where it has one at all
abbrev pub has_place_in_file : SectionRow → Bool
has_place_in_file row = not (in_file row.key.class) || (nat_le first_offset row.offset && ends_in_bounds row.offset row.room)

-- whether an output section may follow these
unfoldable pub is_good_row : List SectionRow → SectionRow → Bool
is_good_row before row =
    is_field_power row.align
    && nat_le row.size row.room
    && nat_le (reserved_of row.key) row.room
    && ends_in_bounds row.addr row.room
    && has_place_in_file row
    && list_all (row_is_beside row) before

-- ---- pieces

-- whether a piece lies in the room of a row; the reserved end of it does not count
abbrev pub lies_in_room : PieceRow → SectionRow → Bool
lies_in_room piece row =
    nat_le row.addr piece.addr && nat_le (piece.addr + piece.size + reserved_of row.key) (row.addr + row.room)

-- whether a placed piece may follow these
unfoldable pub is_good_place : List SectionRow → List PieceRow → PieceRow → Bool
is_good_place rows before piece =
    is_some_with (lies_in_room piece) (slice_get rows piece.section) && list_all (pieces_apart piece) before

abbrev pub place_is_good : List SectionRow → List PieceRow → Option PieceRow → Bool
place_is_good rows before None = true
place_is_good rows before (Some piece) = is_good_place rows before piece

-- whether a placement can distinguish two pieces of one input, which it knows by their section numbers
abbrev pub are_distinguished : ReadPiece → ReadPiece → Bool
are_distinguished a b = not (a.info.section == b.info.section) || (is_none a.placed && is_none b.placed)

-- whether a piece of an input may follow these placed pieces, and these pieces of the input
unfoldable pub is_good_piece : List SectionRow → List PieceRow → List ReadPiece → ReadPiece → Bool
is_good_piece rows before earlier piece =
    is_field_power piece.info.align && place_is_good rows before piece.placed && list_all (are_distinguished piece) earlier

-- ---- symbols

-- a common's value is an alignment
abbrev pub value_is_good : Home → ℕ → Bool
value_is_good home.Common value = is_field_power value
value_is_good home.Undefined value = true
value_is_good (home.Section n) value = true
value_is_good home.Absolute value = true
value_is_good home.Shared value = true

-- whether a symbol is one that a file can have: GLOBAL or WEAK, a type of four bits, one of the four
-- visibilities
unfoldable pub is_good_global : Global → Bool
is_good_global g =
    (g.binding == stb_global || g.binding == stb_weak)
    && nat_lt g.code 16
    && nat_le g.visibility stv_protected
    && value_is_good g.home g.value
