-- The laws on bytes that stretches are written into, as statements (this project's own).
use Rattle.std.specs.Prelude.{◌≡◌, ◌≤◌, ◌+◌, ◌⊎◌, ℕ, false, IsTrue, List, [], ◌∷◌, ◌++◌, length, replicate, slice_index}
use Rattle.std.specs.List.{AllByRecursion, Contains, list_any}
use Rattle.lk_model.specs.Images.{stretch}
use Rattle.lk_model.specs.Lawful.{Pairs, share_nothing}
use Rattle.lk_model.specs.Stretches.{AllAreAt, IsLaidOut, Stretch, end_of_all, has_byte}
use Rattle.lk_law_writes.specs.Written.{written}

-- two stretches share no byte; one without bytes shares none with any
abbrev pub ShareNothing : Stretch → Stretch → Type 0
ShareNothing a b = IsTrue (share_nothing a.at (length a.bytes) b.at (length b.bytes))

-- no two of these stretches share a byte
abbrev pub AreApart : List Stretch → Type 0
AreApart stretches = Pairs ShareNothing stretches

-- a stretch ends within so many bytes
abbrev pub EndsWithin : ℕ → Stretch → Type 0
EndsWithin n s = s.at + length s.bytes ≤ n

abbrev pub AllEndWithin : ℕ → List Stretch → Type 0
AllEndWithin n stretches = AllByRecursion (EndsWithin n) stretches

-- a stretch of zeros, which an image of zeros has without a write
abbrev pub IsZeros : Stretch → Type 0
IsZeros s = s.bytes ≡ replicate (length s.bytes) 0

-- writing keeps the length
abbrev pub LengthStays : Type 0
LengthStays = (image : List ℕ) (ts : List Stretch) → AllEndWithin (length image) ts → length (written image ts) ≡ length image

-- some stretches and then others are all of them
abbrev pub WrittenInTurn : Type 0
WrittenInTurn = (image : List ℕ) (ss ts : List Stretch) → written image (ss ++ ts) ≡ written (written image ss) ts

-- a stretch may be written in two parts
abbrev pub PartsAreWhole : Type 0
PartsAreWhole =
    (image xs ys : List ℕ) (at : ℕ)
    → at + length xs + length ys ≤ length image
    → written image (stretch at xs ∷ stretch (at + length xs) ys ∷ []) ≡ written image (stretch at (xs ++ ys) ∷ [])

-- what bytes hold after stretches were written into them: each stretch, and what was there at every other
-- place
pub record HoldsOver (before : List ℕ) (stretches : List Stretch) (image : List ℕ) : Type 0 where
  pub is_at : AllAreAt image stretches
  pub others : (k : ℕ) → list_any (has_byte k) stretches ≡ false → slice_index image k ≡ slice_index before k
  pub length : length image ≡ length before

-- stretches that share no byte are all there after they were written
abbrev pub WrittenIsAt : Type 0
WrittenIsAt = (image : List ℕ) (ts : List Stretch) → AreApart ts → AllEndWithin (length image) ts → HoldsOver image ts (written image ts)

-- some stretches, and the writes that put them into zeros, in any order, some of them twice
pub record Puts (ss ts : List Stretch) : Type 0 where
  -- nothing else is written
  pub only : AllByRecursion (λ t. Contains ss t) ts
  -- each is written, but zeros need not be
  pub each : AllByRecursion (λ s. IsZeros s ⊎ Contains ts s) ss

-- an image of zeros with all its stretches written into it is laid out
abbrev pub WrittenIsLaidOut : Type 0
WrittenIsLaidOut =
    (ss ts : List Stretch)
    → AreApart ss
    → AllEndWithin (end_of_all ss) ss
    → Puts ss ts
    → IsLaidOut ss (written (replicate (end_of_all ss) 0) ts)

-- zeros at the end of a stretch that is not the last one are none of its own
abbrev pub PaddingIsZeros : Type 0
PaddingIsZeros =
    (at zeros : ℕ) (bytes : List ℕ) (s : Stretch) (ss : List Stretch) (image : List ℕ)
    → IsLaidOut (stretch at (bytes ++ replicate zeros 0) ∷ s ∷ ss) image
    → IsLaidOut (stretch at bytes ∷ s ∷ ss) image
