-- The first fault of two lists of checks, one after the other.
use Rattle.std.specs.Prelude.{◌≡◌, Bool, true, false, cond, List, [], ◌∷◌, ◌++◌, Some, None, refl}
use Rattle.std.specs.Option.{option_or}
use Rattle.lk_model.specs.Checks.{first_fault}

-- it is that of the first list, or else that of the second
pub first_fault-append : {F : Type 0} (xs ys : List (Bool × F)) → first_fault (xs ++ ys) ≡ option_or (first_fault xs) (first_fault ys)
first_fault-append [] ys = refl
first_fault-append {F} (x ∷ xs) ys =
    elim x.0 as (λ b. cond b (Some x.1) (first_fault (xs ++ ys)) ≡ option_or (cond b (Some x.1) (first_fault xs)) (first_fault ys)) [
      | true ↦ refl
      | false ↦ first_fault-append xs ys
    ]

-- where the first list has no fault, it is that of the second
pub first_fault-after : {F : Type 0} (xs ys : List (Bool × F)) → first_fault xs ≡ None → first_fault (xs ++ ys) ≡ first_fault ys
first_fault-after xs ys h =
    let e = first_fault-append xs ys in
    cc (e, h)

-- where the first list has a fault, it is that
pub first_fault-before : {F : Type 0} (xs ys : List (Bool × F)) (fault : F) → first_fault xs ≡ Some fault → first_fault (xs ++ ys) ≡ Some fault
first_fault-before xs ys fault h =
    let e = first_fault-append xs ys in
    cc (e, h)
