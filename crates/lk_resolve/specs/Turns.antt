-- This project's own: whose turn it is to be asked, going round the places.
use Rattle.std.specs.Prelude.{ℕ, Bool, cond, ◌&&◌, ◌||◌, nat_lt, not}
use Rattle.std.specs.BTreeSet.{contains}
use Rattle.std.specs.Ordering.{nat_cmp}
use Rattle.lk_resolve.specs.declared.turns.Turns.{Turns}

-- whether a place is to be asked
abbrev pub is_due : Turns → ℕ → Bool
is_due t i = contains nat_cmp t.due i

-- whether a place is passed on the way from one place to another, the first of them included: the places
-- between them, or those behind the first and those before the other where the way goes round
abbrev pub is_passed : ℕ → ℕ → ℕ → Bool
is_passed from to i = cond (nat_lt to from) (not (nat_lt i from) || nat_lt i to) (not (nat_lt i from) && nat_lt i to)
