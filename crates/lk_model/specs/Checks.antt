-- This project's own: a reader's refusals as one list of conditions, each with its fault, in the
-- order in which they are looked for.
use Rattle.std.specs.Prelude.{Bool, false, cond, List, [], ◌∷◌, Option, Some, None}

-- the fault of the first condition that holds
abbrev pub first_fault : {F : Type 0} → List (Bool × F) → Option F
first_fault [] = None
first_fault (check ∷ checks) = cond check.0 (Some check.1) (first_fault checks)

-- whether there is a value that passes
abbrev pub is_some_with : {X : Type 0} → (X → Bool) → Option X → Bool
is_some_with test None = false
is_some_with test (Some x) = test x
