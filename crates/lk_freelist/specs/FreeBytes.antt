-- This project's own: the free bytes of a room, and the holes in which they lie. Bytes are numbered from
-- the room's start.
use Rattle.std.specs.Prelude.{◌≡◌, ℕ, Bool, false, List, [], ◌∷◌, ◌+◌, ◌^◌, ◌<◌, ◌≤◌, ◌&&◌, nat_le, nat_lt}
use Rattle.std.specs.List.{list_any}
use Rattle.lk_model.specs.declared.layouts.Hole.{Hole}

-- whether a byte is one of `size` bytes from `start` on
abbrev pub is_in : ℕ → ℕ → ℕ → Bool
is_in start size byte = nat_le start byte && nat_lt byte (start + size)

-- where a hole ends
abbrev pub end_of : Hole → ℕ
end_of hole = hole.start + hole.length

-- whether a byte lies in one of the holes
abbrev pub is_free : List Hole → ℕ → Bool
is_free holes byte = list_any (λ (hole : Hole). is_in hole.start hole.length byte) holes

-- no byte of the range is free
abbrev pub NoneFree : List Hole → ℕ → ℕ → Type 0
NoneFree holes start size = (byte : ℕ) → start ≤ byte → byte < start + size → is_free holes byte ≡ false

-- the holes begin at a place or above it and rise; each has a byte and ends below 2^64, and between it
-- and the next one there is a byte
abbrev pub HolesFrom : ℕ → List Hole → Type 0
HolesFrom at [] = Unit {0}
HolesFrom at (hole ∷ holes) =
    (at ≤ hole.start) × (0 < hole.length) × (hole.start + hole.length < 2 ^ 64) × HolesFrom (hole.start + hole.length + 1) holes

-- holes by rising start that do not touch
abbrev pub AreHoles : List Hole → Type 0
AreHoles holes = HolesFrom 0 holes
