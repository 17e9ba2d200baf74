-- This project's own: the table of the numbers of dynamic symbols.
use Rattle.std.specs.Prelude.{◌≡◌, ℕ, ◌+◌, ◌==◌, nat_eq, cond, List, [], ◌∷◌, Option, Some, None}
use Rattle.std.specs.Map.{lookup}

-- the number that the entries have for a name
abbrev pub place_of : List (ℕ × ℕ) → ℕ → Option ℕ
place_of entries n = lookup (nat_eq n) entries

-- the place of the first of these names that is this one, where the first is at this place
abbrev pub place_from : ℕ → ℕ → List ℕ → Option ℕ
place_from n at [] = None
place_from n at (x ∷ xs) = cond (x == n) (Some at) (place_from n (at + 1) xs)

-- the entries have for each name its first place among these
abbrev pub FindsPlaces : List (ℕ × ℕ) → List ℕ → Type 0
FindsPlaces entries names = (n : ℕ) → place_of entries n ≡ place_from n 0 names

-- the number of a symbol at a place, whose table begins with the null symbol; the one behind all for none
abbrev pub number_at : ℕ → Option ℕ → ℕ
number_at count None = count + 1
number_at count (Some at) = at + 1
