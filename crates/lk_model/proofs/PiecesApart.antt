-- Pieces of one section: each is at or above the end of those before it, and the last ends in the room.
use Rattle.std.specs.Prelude.{◌≡◌, ℕ, IsTrue, List, [], ◌∷◌, ◌++◌, ◌+◌, ◌-◌, ◌*◌, ◌/◌, ◌<◌, ◌≤◌, fold}
use Rattle.std.specs.List.{AllByRecursion}
use Rattle.std.proofs.Common.{arith}
use Rattle.std.proofs.lemmas.Bool.Decides.{nat_tests}
use Rattle.std.proofs.lemmas.List.Sums.{fold-append}
use Rattle.lk_model.specs.Rooms.{room_of, is_fillable, patched_offset, patched_next, patched_end, patched_room, sequence_offset, sequence_end}
use Rattle.lk_model.specs.Views.{KeptPiece}
use Rattle.lk_model.proofs.Multiples.{round_up_above, step_above}

-- every alignment is above 0
abbrev pub PiecesAligned : List KeptPiece → Type 0
PiecesAligned pieces = AllByRecursion (λ (piece : KeptPiece). 0 < piece.align) pieces

-- ---- patched sections

-- the cursor after a piece that is not empty is its end
pub patched_next_is_end : (least cursor : ℕ) (piece : KeptPiece) → 0 < piece.size → patched_next least cursor piece ≡ patched_offset least cursor piece + piece.size
patched_next_is_end least cursor piece filled = grind (arith, nat_tests, filled)

-- a piece that is not empty is at or above the cursor
pub patched_offset_above : (least cursor : ℕ) (piece : KeptPiece) → 0 < piece.align → 0 < piece.size → cursor ≤ patched_offset least cursor piece
patched_offset_above least cursor piece aligned filled =
    let above = step_above least cursor piece.align aligned in
    grind (arith, nat_tests, above, filled)

-- a cursor does not fall
patched_next_above : (least cursor : ℕ) (piece : KeptPiece) → 0 < piece.align → cursor ≤ patched_next least cursor piece
patched_next_above least cursor piece aligned =
    let above = step_above least cursor piece.align aligned in
    grind (arith, nat_tests, above)

pub patched_grows : (least cursor : ℕ) (pieces : List KeptPiece) → PiecesAligned pieces → cursor ≤ fold (patched_next least) cursor pieces
patched_grows least cursor [] aligned = omega arith
patched_grows least cursor (piece ∷ pieces) aligned =
    let here = patched_next_above least cursor piece aligned.0 in
    let on = patched_grows least (patched_next least cursor piece) pieces aligned.1 in
    omega (arith, here, on)

-- a piece that is not empty ends at or below where those up to a later one end
pub patched_ends_below :
    (least : ℕ) (earlier : List KeptPiece) (piece : KeptPiece) (more : List KeptPiece)
    → PiecesAligned more
    → 0 < piece.size
    → patched_offset least (patched_end least earlier) piece + piece.size ≤ patched_end least (earlier ++ piece ∷ more)
patched_ends_below least earlier piece more aligned filled =
    let joined = fold-append (patched_next least) 0 earlier (piece ∷ more) in
    let ends = patched_next_is_end least (patched_end least earlier) piece filled in
    let on = patched_grows least (patched_next least (patched_end least earlier) piece) more aligned in
    omega (arith, joined, ends, on)

-- so a later one that is not empty is at or above its end
pub patched_apart :
    (least : ℕ) (earlier : List KeptPiece) (piece : KeptPiece) (more : List KeptPiece) (later : KeptPiece)
    → PiecesAligned more
    → 0 < piece.size
    → 0 < later.align
    → 0 < later.size
    → patched_offset least (patched_end least earlier) piece + piece.size ≤ patched_offset least (patched_end least (earlier ++ piece ∷ more)) later
patched_apart least earlier piece more later aligned filled later_aligned later_filled =
    let ends = patched_ends_below least earlier piece more aligned filled in
    let above = patched_offset_above least (patched_end least (earlier ++ piece ∷ more)) later later_aligned later_filled in
    omega (arith, ends, above)

-- a room is at least what it is for
pub room_above : (patch n : ℕ) → n ≤ room_of patch n
unfolding room_of
room_above patch n =
    let above = round_up_above (n + n * patch / 100) 64 (omega arith) in
    grind (arith, above)

-- the pieces of a patched section leave its reserved end free, and the last hole can be filled
pub patched_room_above : (patch least reserved n : ℕ) → n + reserved ≤ patched_room patch least reserved n
unfolding patched_room
patched_room_above patch least reserved n =
    let above = room_above patch (n + reserved) in
    grind (arith, above)

pub patched_room_fillable :
    (patch least reserved n : ℕ)
    → least ≤ 64
    → IsTrue (is_fillable least (patched_room patch least reserved n - reserved - n))
unfolding patched_room
patched_room_fillable patch least reserved n short =
    let above = room_above patch (n + reserved) in
    grind (arith, nat_tests, above, short)

-- ---- sequences

sequence_grows : (cursor : ℕ) (pieces : List KeptPiece) → PiecesAligned pieces → cursor ≤ fold (λ cursor piece. sequence_offset cursor piece + piece.size) cursor pieces
sequence_grows cursor [] aligned = omega arith
sequence_grows cursor (piece ∷ pieces) aligned =
    let here = round_up_above cursor piece.align aligned.0 in
    let on = sequence_grows (sequence_offset cursor piece + piece.size) pieces aligned.1 in
    omega (arith, here, on)

-- a piece ends at or below where those up to a later one end
pub sequence_ends_below :
    (earlier : List KeptPiece) (piece : KeptPiece) (more : List KeptPiece)
    → PiecesAligned more
    → sequence_offset (sequence_end earlier) piece + piece.size ≤ sequence_end (earlier ++ piece ∷ more)
sequence_ends_below earlier piece more aligned =
    let joined = fold-append (λ cursor (p : KeptPiece). sequence_offset cursor p + p.size) 0 earlier (piece ∷ more) in
    let on = sequence_grows (sequence_offset (sequence_end earlier) piece + piece.size) more aligned in
    omega (arith, joined, on)

-- so a later one is at or above its end
pub sequence_apart :
    (earlier : List KeptPiece) (piece : KeptPiece) (more : List KeptPiece) (later : KeptPiece)
    → PiecesAligned more
    → 0 < later.align
    → sequence_offset (sequence_end earlier) piece + piece.size ≤ sequence_offset (sequence_end (earlier ++ piece ∷ more)) later
sequence_apart earlier piece more later aligned later_aligned =
    let ends = sequence_ends_below earlier piece more aligned in
    let above = round_up_above (sequence_end (earlier ++ piece ∷ more)) later.align later_aligned in
    omega (arith, ends, above)
