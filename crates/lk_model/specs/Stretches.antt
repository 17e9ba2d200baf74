-- An image as stretches of bytes that are at their places (this project's own).
use Rattle.std.specs.Prelude.{◌≡◌, ℕ, ◌+◌, ◌-◌, ◌<◌, Bool, true, false, nat_le, nat_lt, ◌&&◌, List, [], ◌∷◌, ◌++◌, length, take, drop, slice_index, replicate}
use Rattle.std.specs.List.{list_any}

-- bytes and the place in the file where they are
pub record Stretch : Type 0 where
  pub at : ℕ
  pub bytes : List ℕ

-- a stretch is at its place in a file
abbrev pub IsAt : List ℕ → Stretch → Type 0
IsAt image s = take (length s.bytes) (drop s.at image) ≡ s.bytes

abbrev pub AllAreAt : List ℕ → List Stretch → Type 0
AllAreAt image [] = Unit {0}
AllAreAt image (s ∷ ss) = IsAt image s × AllAreAt image ss

-- whether a stretch has the byte at a place
abbrev pub has_byte : ℕ → Stretch → Bool
has_byte k s = nat_le s.at k && nat_lt k (s.at + length s.bytes)

-- the end of the last stretch
abbrev pub end_of_all : List Stretch → ℕ
end_of_all [] = 0
end_of_all (s ∷ []) = s.at + length s.bytes
end_of_all (s ∷ t ∷ ss) = end_of_all (t ∷ ss)

-- a file is these stretches: each is at its place, every other byte is 0, and the file ends with
-- the last one
pub record IsLaidOut (stretches : List Stretch) (image : List ℕ) : Type 0 where
  pub is_at : AllAreAt image stretches
  pub zeros : (k : ℕ) → k < length image → list_any (has_byte k) stretches ≡ false → slice_index image k ≡ 0
  pub ends : length image ≡ end_of_all stretches

-- the bytes of stretches that rise, from a place on, with zeros between them
abbrev pub laid_from : ℕ → List Stretch → List ℕ
laid_from place [] = []
laid_from place (s ∷ ss) = replicate (s.at - place) 0 ++ s.bytes ++ laid_from (s.at + length s.bytes) ss

-- a file made of stretches that rise
unfoldable pub laid_out : List Stretch → List ℕ
laid_out stretches = laid_from 0 stretches

-- stretches rise from a place on and share no byte
abbrev pub rises_from : ℕ → List Stretch → Bool
rises_from place [] = true
rises_from place (s ∷ ss) = nat_le place s.at && rises_from (s.at + length s.bytes) ss

-- two stretches share no byte
abbrev pub is_apart : Stretch → Stretch → Bool
is_apart a b = elim (nat_le (a.at + length a.bytes) b.at) [ true ↦ true | false ↦ nat_le (b.at + length b.bytes) a.at ]
