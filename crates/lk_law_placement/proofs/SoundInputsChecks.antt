-- Lists of checks in which no fault is found, part by part and item by item.
use Rattle.std.specs.Prelude.{◌≡◌, Bool, true, false, List, [], ◌∷◌, ◌++◌, filter_map, flat_map, Option, Some, None, ⊤, refl}
use Rattle.std.specs.List.{AllByRecursion, cons_option}
use Rattle.lk_model.specs.Checks.{first_fault}

-- an optional item has the property, where it is present
abbrev pub AllSome : {A : Type 0} → (A → Type 0) → Option A → Type 0
AllSome P None = ⊤
AllSome P (Some x) = P x

reported_first : {A : Type 0} (P : A → Type 0) (o : Option A) (xs : List A) → AllSome P o → AllByRecursion P xs → AllByRecursion P (cons_option o xs)
reported_first P None xs first rest = rest
reported_first P (Some x) xs first rest = (first, rest)

-- where the property holds of what each item gives, it holds of all items that are given
pub all_reported : {A B : Type 0} (P : B → Type 0) (h : A → Option B) (xs : List A) → AllByRecursion (λ x. AllSome P (h x)) xs → AllByRecursion P (filter_map h xs)
all_reported P h [] all = tt
all_reported P h (x ∷ xs) all = reported_first P (h x) (filter_map h xs) all.0 (all_reported P h xs all.1)

some_none : {F : Type 0} (f : F) → Some f ≡ None → ⊥
some_none f e = cc

-- where no fault is found, no check finds one
pub all_passed : {F : Type 0} (checks : List (Bool × F)) → first_fault checks ≡ None → AllByRecursion (λ check. check.0 ≡ false) checks
all_passed [] e = tt
all_passed ((true, f) ∷ checks) e = absurd (some_none f e)
all_passed ((false, f) ∷ checks) e = (refl, all_passed checks e)

-- and none is found in the first part
pub passed_before : {F : Type 0} (xs ys : List (Bool × F)) → first_fault (xs ++ ys) ≡ None → first_fault xs ≡ None
passed_before [] ys e = refl
passed_before ((true, f) ∷ xs) ys e = absurd (some_none f e)
passed_before ((false, f) ∷ xs) ys e = passed_before xs ys e

-- nor in the second
pub passed_after : {F : Type 0} (xs ys : List (Bool × F)) → first_fault (xs ++ ys) ≡ None → first_fault ys ≡ None
passed_after [] ys e = e
passed_after ((true, f) ∷ xs) ys e = absurd (some_none f e)
passed_after ((false, f) ∷ xs) ys e = passed_after xs ys e

-- nor in the checks of any item
pub passed_each : {A F : Type 0} (checks : A → List (Bool × F)) (xs : List A) → first_fault (flat_map checks xs) ≡ None → AllByRecursion (λ x. first_fault (checks x) ≡ None) xs
passed_each checks [] e = tt
passed_each checks (x ∷ xs) e =
    (passed_before (checks x) (flat_map checks xs) e, passed_each checks xs (passed_after (checks x) (flat_map checks xs) e))
