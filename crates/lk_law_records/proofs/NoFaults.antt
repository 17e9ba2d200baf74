-- Where a list of checks finds no fault, no condition of it holds, nor of any part of it.
use Rattle.std.specs.Prelude.{◌≡◌, refl, Bool, true, false, List, [], ◌∷◌, ◌++◌, flat_map, None}
use Rattle.std.specs.List.{AllByRecursion}
use Rattle.lk_model.specs.Checks.{first_fault}

abbrev pub NoFault : {F : Type 0} → List (Bool × F) → Type 0
NoFault checks = first_fault checks ≡ None

pub after-first : {F : Type 0} (b : Bool) (f : F) (checks : List (Bool × F)) → NoFault ((b, f) ∷ checks) → (b ≡ false) × NoFault checks
after-first true f checks none = absurd (cc)
after-first false f checks none = (refl, none)

pub none-both : {F : Type 0} (xs ys : List (Bool × F)) → NoFault (xs ++ ys) → NoFault xs × NoFault ys
none-both [] ys none = (refl, none)
none-both ((b, f) ∷ xs) ys none =
    let step = after-first b f (xs ++ ys) none in
    let rest = none-both xs ys step.1 in
    (rw step.0 rest.0, rest.1)

pub none-each : {F X : Type 0} (checks : X → List (Bool × F)) (xs : List X) → NoFault (flat_map checks xs) → AllByRecursion (λ x. NoFault (checks x)) xs
none-each checks [] none = tt
none-each checks (x ∷ xs) none =
    let both = none-both (checks x) (flat_map checks xs) none in
    (both.0, none-each checks xs both.1)

-- none of the conditions holds
pub all-false : {F : Type 0} (checks : List (Bool × F)) → NoFault checks → AllByRecursion (λ (c : Bool × F). c.0 ≡ false) checks
all-false [] none = tt
all-false ((b, f) ∷ checks) none =
    let step = after-first b f checks none in
    (step.0, all-false checks step.1)
