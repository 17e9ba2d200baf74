-- This project's own: where the pieces of an output section are in it, and how many bytes are
-- reserved for it. Offsets and sizes are in bytes.
use Rattle.std.specs.Prelude.{ℕ, Bool, true, false, if◌then◌else◌, List, [], ◌∷◌, ◌++◌, ◌+◌, ◌-◌, ◌*◌, ◌/◌, ◌==◌, ◌&&◌, ◌||◌, nat_eq, nat_le, nat_lt, max, length, drop, fold, filter, take_while, codes}
use Rattle.std.specs.List.{list_all, starts_with, prefix_len}
use Rattle.lk_model.specs.Amounts.{round_up}
use Rattle.lk_model.specs.Views.{KeptPiece}

-- the room for n bytes: more by so many percent, in whole lines of 64 bytes
unfoldable pub room_of : ℕ → ℕ → ℕ
room_of patch n = max 64 (round_up (n + n * patch / 100) 64)

-- whether a hole of n bytes can be filled
abbrev pub is_fillable : ℕ → ℕ → Bool
is_fillable least n = n == 0 || nat_le least n

-- the least multiple of the alignment at or above the cursor that leaves a hole behind the cursor
-- that can be filled
unfoldable pub step_to : ℕ → ℕ → ℕ → ℕ
step_to least cursor align =
    let next = round_up cursor align in
    if is_fillable least (next - cursor) then next else round_up (cursor + least) align

-- where a piece of a patched section is, where the pieces before it end at the cursor
abbrev pub patched_offset : ℕ → ℕ → KeptPiece → ℕ
patched_offset least cursor piece = if piece.size == 0 then 0 else step_to least cursor piece.align

-- the cursor after the piece
abbrev pub patched_next : ℕ → ℕ → KeptPiece → ℕ
patched_next least cursor piece = if piece.size == 0 then cursor else step_to least cursor piece.align + piece.size

-- where the pieces of a patched section end
abbrev pub patched_end : ℕ → List KeptPiece → ℕ
patched_end least pieces = fold (patched_next least) 0 pieces

-- the room of a patched section whose pieces end at n: 64 bytes more where the last hole, which the
-- reserved bytes end, could not be filled
unfoldable pub patched_room : ℕ → ℕ → ℕ → ℕ → ℕ
patched_room patch least reserved n =
    let room = room_of patch (n + reserved) in
    if is_fillable least (room - reserved - n) then room else room + 64

-- where a piece of a sequence is, where the pieces before it end at the cursor
abbrev pub sequence_offset : ℕ → KeptPiece → ℕ
sequence_offset cursor piece = round_up cursor piece.align

-- where the pieces of a sequence end
abbrev pub sequence_end : List KeptPiece → ℕ
sequence_end pieces = fold (λ cursor piece. sequence_offset cursor piece + piece.size) 0 pieces

-- a decimal digit
abbrev pub is_digit : ℕ → Bool
is_digit byte = nat_le 48 byte && nat_le byte 57

-- the number that the digits spell
abbrev pub decimal_of : List ℕ → ℕ
decimal_of digits = fold (λ n digit. n * 10 + (digit - 48)) 0 digits

-- one to five decimal digits
abbrev pub is_short_decimal : List ℕ → Bool
is_short_decimal digits = nat_le 1 (length digits) && nat_le (length digits) 5 && list_all is_digit digits

-- what follows the section's name and a dot in the piece's name
abbrev pub after_dot : KeptPiece → List ℕ
after_dot piece = drop (length piece.key.name + 1) piece.name

-- whether the piece's name is that of its section, a dot and a number
abbrev pub has_number : KeptPiece → Bool
has_number piece = starts_with nat_eq piece.name (piece.key.name ++ codes ".") && is_short_decimal (after_dot piece)

-- the number of a piece of an array of functions; pieces without one come after all that have one
abbrev pub array_rank : KeptPiece → ℕ
array_rank piece = if has_number piece then decimal_of (after_dot piece) else 100000

-- a piece put among others by its number, after those of the same number
abbrev pub put_by_number : List KeptPiece → KeptPiece → List KeptPiece
put_by_number sorted piece =
    let before = prefix_len (λ (other : KeptPiece). nat_le (array_rank other) (array_rank piece)) sorted in
    take_while (λ (other : KeptPiece). nat_le (array_rank other) (array_rank piece)) sorted ++ piece ∷ drop before sorted

-- the pieces by rising number, those of one number in their order
abbrev pub by_number : List KeptPiece → List KeptPiece
by_number pieces = fold put_by_number [] pieces

-- the pieces of a sequence in the order in which they are, from their order of adding
abbrev pub sequence_of : Bool → List KeptPiece → List KeptPiece
sequence_of false pieces = pieces
sequence_of true pieces = by_number pieces

-- the pieces of a sequence that are before a piece: `all` are those of its section, `earlier` those
-- that were added before it
abbrev pub before_in_sequence : Bool → List KeptPiece → List KeptPiece → KeptPiece → List KeptPiece
before_in_sequence false all earlier piece = earlier
before_in_sequence true all earlier piece =
    take_while (λ (other : KeptPiece). nat_lt (array_rank other) (array_rank piece)) (by_number all)
    ++ filter (λ (other : KeptPiece). array_rank other == array_rank piece) earlier
