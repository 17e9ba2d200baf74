-- Lists of rows that pass a test.
use Rattle.std.proofs.Common.{◌≡◌, Bool, true, false, ◌||◌, List, [], ◌∷◌, refl, filter, if◌then◌else◌}
use Rattle.std.specs.List.{list_any}
use Rattle.lk_headers.specs.Ends.{has_items}

one_more : {X : Type 0} (b rest : Bool) (x : X) (xs : List X) → rest ≡ has_items xs → (b || rest) ≡ has_items (if b then x ∷ xs else xs)
one_more true rest x xs e = refl
one_more false rest x xs e = e

-- a row passes the test exactly where the filtered list has an item
pub any_left : {X : Type 0} (p : X → Bool) (xs : List X) → list_any p xs ≡ has_items (filter p xs)
any_left p [] = refl
any_left p (x ∷ xs) = one_more (p x) (list_any p xs) x (filter p xs) (any_left p xs)
