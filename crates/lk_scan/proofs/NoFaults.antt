-- A list without items.
use Rattle.std.proofs.Common.{◌≡◌, refl, arith, ◌≤◌, nat_lt, ltb-false, false, List, [], ◌∷◌, length}

pub none_where_empty : {X : Type 0} (xs : List X) → nat_lt 0 (length xs) ≡ false → xs ≡ []
none_where_empty [] e = refl
none_where_empty (x ∷ xs) e = let none : length (x ∷ xs) ≤ 0 = ltb-false 0 (length (x ∷ xs)) e in absurd (omega arith)
