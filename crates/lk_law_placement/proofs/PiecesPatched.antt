-- A piece of a patched section: it is at a multiple of its alignment and ends before the section's
-- reserved end, and a later one is behind it.
use Rattle.std.specs.Prelude.{◌≡◌, ℕ, zero, suc, Bool, true, false, List, [], ◌∷◌, ◌++◌, ◌+◌, ◌-◌, ◌<◌, ◌≤◌, ◌⊎◌, if◌then◌else◌, refl}
use Rattle.std.specs.List.{AllByRecursion}
use Rattle.std.proofs.Common.{arith, inl, inr, ap, ◌∙◌}
use Rattle.std.specs.Int.{◌∣◌}
use Rattle.std.proofs.lemmas.Bool.Decides.{nat_tests}
use Rattle.std.proofs.lemmas.Nat.Gcd.{dvd-zero}
use Rattle.lk_model.specs.Rooms.{patched_end, patched_offset, patched_room, step_to}
use Rattle.lk_model.specs.Views.{KeptPiece}
use Rattle.lk_model.proofs.Multiples.{step_multiple}
use Rattle.lk_model.proofs.PiecesApart.{PiecesAligned, patched_apart, patched_ends_below, patched_room_above}
use Rattle.lk_law_placement.specs.SoundPieces.{SoundPiece}
use Rattle.lk_law_placement.proofs.PiecesPowers.{multiple_divides, power_positive}

-- the offset of a piece in a patched section of so much room; `earlier` are the pieces before it there
abbrev pub spot_of : ℕ → ℕ → List KeptPiece → KeptPiece → ℕ
spot_of room least earlier piece = if piece.terminator then room - 4 else patched_offset least (patched_end least earlier) piece

-- sound pieces are aligned
pub sound_aligned : (pieces : List KeptPiece) → AllByRecursion SoundPiece pieces → PiecesAligned pieces
sound_aligned [] sound = tt
sound_aligned (piece ∷ pieces) sound = (power_positive piece.align sound.0.aligned, sound_aligned pieces sound.1)

-- a number is 0 or above it
pub none_or_some : (n : ℕ) → (n ≡ 0) ⊎ (0 < n)
none_or_some zero = inl refl
none_or_some (suc n) = inr (omega arith)

-- the offset of a piece without bytes and of one with bytes
pub empty_at_start : (least cursor : ℕ) (piece : KeptPiece) → piece.size ≡ 0 → patched_offset least cursor piece ≡ 0
empty_at_start least cursor piece empty = rw empty refl

pub filled_at_step : (least cursor : ℕ) (piece : KeptPiece) → 0 < piece.size → patched_offset least cursor piece ≡ step_to least cursor piece.align
filled_at_step least cursor piece filled = grind (arith, nat_tests, filled)

-- a piece with bytes is no terminator
pub filled_is_piece : (piece : KeptPiece) → SoundPiece piece → 0 < piece.size → piece.terminator ≡ false
filled_is_piece piece sound filled = go piece.terminator refl
  where
    go : (b : Bool) → piece.terminator ≡ b → piece.terminator ≡ false
    go true e = let empty = sound.empty e in absurd (omega (arith, empty, filled))
    go false e = e

-- it ends before the reserved end
pub patched_fits :
    (patch least reserved room : ℕ) (pieces earlier : List KeptPiece) (piece : KeptPiece) (more : List KeptPiece)
    → pieces ≡ earlier ++ piece ∷ more
    → AllByRecursion SoundPiece more
    → SoundPiece piece
    → (piece.terminator ≡ true → reserved ≡ 4)
    → room ≡ patched_room patch least reserved (patched_end least pieces)
    → spot_of room least earlier piece + piece.size + reserved ≤ room
patched_fits patch least reserved room pieces earlier piece more split sound_more sound four reported = go piece.terminator refl
  where
    whole : patched_end least pieces + reserved ≤ room
    whole = let above = patched_room_above patch least reserved (patched_end least pieces) in omega (arith, above, reported)

    go : (b : Bool) → piece.terminator ≡ b → spot_of room least earlier piece + piece.size + reserved ≤ room
    go true e =
        let empty = sound.empty e in
        let end = four e in
        let room_there = whole in
        let spot : spot_of room least earlier piece ≡ room - 4 = rw e refl in
        omega (arith, empty, end, room_there, spot)
    go false e =
        let room_there = whole in
        let spot : spot_of room least earlier piece ≡ patched_offset least (patched_end least earlier) piece = rw e refl in
        elim (none_or_some piece.size) [
          | inl empty ↦
              let start = empty_at_start least (patched_end least earlier) piece empty in
              omega (arith, spot, start, empty, room_there)
          | inr filled ↦
              let below = patched_ends_below least earlier piece more (sound_aligned more sound_more) filled in
              let ends : patched_end least pieces ≡ patched_end least (earlier ++ piece ∷ more) = ap (patched_end least) split in
              omega (arith, spot, below, ends, room_there)
        ]

-- it is at a multiple of its alignment
pub patched_multiple :
    (least cursor : ℕ) (piece : KeptPiece)
    → piece.align ∣ patched_offset least cursor piece
patched_multiple least cursor piece =
    elim (none_or_some piece.size) [
      | inl empty ↦ rw (empty_at_start least cursor piece empty) (dvd-zero piece.align)
      | inr filled ↦
          let step = step_multiple least cursor piece.align in
          multiple_divides piece.align (patched_offset least cursor piece) step.0 (filled_at_step least cursor piece filled ∙ step.1)
    ]

-- a later one with bytes is at or above its end
pub patched_behind :
    (room least : ℕ) (earlier : List KeptPiece) (a : KeptPiece) (middle : List KeptPiece) (b : KeptPiece)
    → SoundPiece a
    → AllByRecursion SoundPiece middle
    → SoundPiece b
    → 0 < a.size
    → 0 < b.size
    → spot_of room least earlier a + a.size ≤ spot_of room least (earlier ++ a ∷ middle) b
patched_behind room least earlier a middle b sound_a sound_middle sound_b filled_a filled_b =
    let first : spot_of room least earlier a ≡ patched_offset least (patched_end least earlier) a = rw (filled_is_piece a sound_a filled_a) refl in
    let second : spot_of room least (earlier ++ a ∷ middle) b ≡ patched_offset least (patched_end least (earlier ++ a ∷ middle)) b = rw (filled_is_piece b sound_b filled_b) refl in
    let apart = patched_apart least earlier a middle b (sound_aligned middle sound_middle) filled_a (power_positive b.align sound_b.aligned) filled_b in
    omega (arith, first, second, apart)
