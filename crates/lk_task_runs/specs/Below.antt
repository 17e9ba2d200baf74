-- The numbers below a bound: whether one passes a test, how many pass, and the first that passes.
use Rattle.std.specs.Prelude.{ℕ, zero, suc, ◌+◌, ◌==◌, Bool, false, ◌||◌, cond, List, Option, None, Some}
use Rattle.std.specs.List.{list_any}

-- whether a number is in a list
abbrev pub has : ℕ → List ℕ → Bool
has n ns = list_any (λ m. m == n) ns

-- whether a number below the bound passes
abbrev pub any_below : (ℕ → Bool) → ℕ → Bool
any_below p zero = false
any_below p (suc n) = p n || any_below p n

-- how many numbers below the bound pass
abbrev pub count_below : (ℕ → Bool) → ℕ → ℕ
count_below p zero = 0
count_below p (suc n) = cond (p n) 1 0 + count_below p n

-- the first of so many numbers from one on that passes
abbrev pub first_from : (ℕ → Bool) → ℕ → ℕ → Option ℕ
first_from p start zero = None
first_from p start (suc n) = cond (p start) (Some start) (first_from p (start + 1) n)

-- the least number below the bound that passes
abbrev pub first_below : (ℕ → Bool) → ℕ → Option ℕ
first_below p n = first_from p 0 n
