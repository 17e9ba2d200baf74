-- The first fault of two lists of checks, one after the other.
use Rattle.std.specs.Prelude.{◌≡◌, refl, Bool, true, false, List, [], ◌∷◌, ◌++◌, Some, None}
use Rattle.lk_model.specs.Checks.{first_fault}

-- where the first list has a fault, it is that one
pub first_reported : {F : Type 0} (xs ys : List (Bool × F)) (f : F) → first_fault xs ≡ Some f → first_fault (xs ++ ys) ≡ Some f
first_reported [] ys f e = cc
first_reported ((true, g) ∷ xs) ys f e = e
first_reported ((false, g) ∷ xs) ys f e = first_reported xs ys f e

-- else it is that of the second list
pub then_reported : {F : Type 0} (xs ys : List (Bool × F)) → first_fault xs ≡ None → first_fault (xs ++ ys) ≡ first_fault ys
then_reported [] ys e = refl
then_reported ((true, g) ∷ xs) ys e = cc
then_reported ((false, g) ∷ xs) ys e = then_reported xs ys e
