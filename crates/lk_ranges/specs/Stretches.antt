-- Stretches of a file's bytes, each from an offset on.
use Rattle.std.specs.Prelude.{◌≡◌, ℕ, ◌+◌, ◌-◌, ◌<◌, ◌≤◌, ◌⊎◌, Bool, false, ◌&&◌, List, [], ◌∷◌, ◌++◌, length, take, drop, replicate, cond, nat_le, nat_lt, slice_index}
use Rattle.std.specs.List.{list_any, AllByRecursion}

-- the bytes of a stretch, and the offset of the first in the file
pub record Stretch : Type 0 where
  pub start : ℕ
  pub bytes : List ℕ

-- stretches that were gathered, and how many more fit in
pub record Gathered : Type 0 where
  pub list : List Stretch
  pub spare : ℕ

-- the offset of the first byte
abbrev pub start_of : Stretch → ℕ
start_of s = s.start

-- the offset behind the last byte
abbrev pub end_of : Stretch → ℕ
end_of s = s.start + length s.bytes

-- bytes with others over those from a place on
abbrev pub patched : List ℕ → ℕ → List ℕ → List ℕ
patched bytes at xs = take at bytes ++ (xs ++ drop (at + length xs) bytes)

-- a stretch after bytes were written at an offset of the file
abbrev pub written : Stretch → ℕ → List ℕ → Stretch
written s at xs = record s { bytes = patched s.bytes (at - s.start) xs }

-- two stretches are the parts of one before an offset and from it on
pub record IsParted (s : Stretch) (at : ℕ) (front back : Stretch) : Type 0 where
  pub front_is : front ≡ record { start = s.start; bytes = take (at - s.start) s.bytes }
  pub back_is : back ≡ record { start = at; bytes = drop (at - s.start) s.bytes }

-- whether a stretch begins at an offset or before it
abbrev pub begins_by : ℕ → Stretch → Bool
begins_by at s = nat_le s.start at

-- the stretches with one more, behind those that begin where it does or before
abbrev pub handed_back : List Stretch → Stretch → List Stretch
handed_back [] s = s ∷ []
handed_back (x ∷ xs) s = cond (begins_by s.start x) (x ∷ handed_back xs s) (s ∷ x ∷ xs)

-- two stretches share no byte
abbrev pub SharesNothing : Stretch → Stretch → Type 0
SharesNothing a b = (end_of a ≤ b.start) ⊎ (end_of b ≤ a.start)

-- bytes with those of stretches at their offsets
abbrev pub with_stretches : List ℕ → List Stretch → List ℕ
with_stretches bytes [] = bytes
with_stretches bytes (x ∷ xs) = with_stretches (patched bytes x.start x.bytes) xs

-- the bytes of a file of this length, with those of stretches at their offsets and 0 elsewhere
abbrev pub bytes_of : List Stretch → ℕ → List ℕ
bytes_of xs n = with_stretches (replicate n 0) xs

-- each two of these stretches share no byte
abbrev pub AreApart : List Stretch → Type 0
AreApart [] = Unit {0}
AreApart (x ∷ xs) = AllByRecursion (SharesNothing x) xs × AreApart xs

-- whether an offset is that of a byte of a stretch
abbrev pub is_in : ℕ → Stretch → Bool
is_in at s = nat_le s.start at && nat_lt at (end_of s)

-- the bytes of a file have the bytes of each stretch at its start, and 0 at every other offset
pub record HasThese (xs : List Stretch) (n : ℕ) (file : List ℕ) : Type 0 where
  pub size : length file ≡ n
  pub each : AllByRecursion (λ x. take (length x.bytes) (drop x.start file) ≡ x.bytes) xs
  pub elsewhere : (at : ℕ) → list_any (is_in at) xs ≡ false → slice_index file at ≡ 0

-- the bytes of stretches that share no byte and end in the file have each stretch at its start and 0 elsewhere
abbrev pub BytesAreThese : Type 0
BytesAreThese = (xs : List Stretch) (n : ℕ) → AreApart xs → AllByRecursion (λ x. end_of x ≤ n) xs → HasThese xs n (bytes_of xs n)
