-- A symbol's number follows from the place of its name, which is the first.
use Rattle.std.proofs.Common.{◌≡◌, ℕ, suc, ◌+◌, ◌==◌, not, Bool, true, false, cond, List, [], ◌∷◌, Option, Some, None, length, position, refl, ap, ◌∙◌, arith}
use Rattle.std.specs.List.{position_or_len}
use Rattle.lk_model.specs.DynamicNames.{dynsym_number}
use Rattle.lk_symbol_values.specs.SlotNumbers.{place_from as first_from}
use Rattle.lk_symbol_values.proofs.Placed.{place_is}
use Rattle.lk_dyn.specs.NamePlaces.{number_at, place_from}

by_test :
    (b : Bool) (at rest size : ℕ) (later : Option ℕ)
    → number_at (at + 1 + size) later ≡ at + 1 + rest + 1
    → number_at (at + suc size) (cond b (Some at) later) ≡ at + cond (not b) (1 + rest) 0 + 1
by_test true at rest size later h = omega arith
by_test false at rest size None h = omega (arith, h)
by_test false at rest size (Some n) h = omega (arith, h)

number_from : (n at : ℕ) (names : List ℕ) → number_at (at + length names) (place_from n at names) ≡ at + position_or_len (λ m. m == n) names + 1
number_from n at [] = omega arith
number_from n at (x ∷ xs) = by_test (x == n) at (position_or_len (λ m. m == n) xs) (length xs) (place_from n (at + 1) xs) (number_from n (at + 1) xs)

pub number_is : (n : ℕ) (names : List ℕ) → number_at (length names) (place_from n 0 names) ≡ dynsym_number names n
number_is n names =
    let count : length names ≡ 0 + length names = omega arith in
    let place : 0 + position_or_len (λ m. m == n) names + 1 ≡ position_or_len (λ m. m == n) names + 1 = omega arith in
    ap (λ c. number_at c (place_from n 0 names)) count ∙ number_from n 0 names ∙ place

-- the place is the first
places_alike : (n at : ℕ) (names : List ℕ) → place_from n at names ≡ first_from (λ m. m == n) at names
places_alike n at [] = refl
places_alike n at (x ∷ xs) = ap (λ o. cond (x == n) (Some at) o) (places_alike n (at + 1) xs)

pub first_is : (n : ℕ) (names : List ℕ) → place_from n 0 names ≡ position (λ m. m == n) names
first_is n names = places_alike n 0 names ∙ place_is (λ m. m == n) names
