-- What holds of two or three tests together.
use Rattle.std.proofs.Common.{◌≡◌, Bool, true, false, ◌&&◌, ◌||◌, not, refl, sym, ap}

-- alternatives in another order and grouping
pub or_swap : (a b c : Bool) → (a || (b || c)) ≡ (b || (a || c))
or_swap true true c = refl
or_swap true false c = refl
or_swap false true c = refl
or_swap false false c = refl

pub or_regroup : (a b c : Bool) → ((a || b) || c) ≡ (a || (b || c))
or_regroup true b c = refl
or_regroup false b c = refl

-- of alternatives that fail the second fails, and of those with a second that passes one passes
pub or_none : (a b : Bool) → (a || b) ≡ false → b ≡ false
or_none true b none = absurd (cc)
or_none false b none = none

pub or_right : (a b : Bool) → b ≡ true → (a || b) ≡ true
or_right true b is = refl
or_right false b is = is

-- both tests pass where the first and the second do
pub and_first : (a b : Bool) → (a && b) ≡ true → a ≡ true
and_first true b both = refl
and_first false b both = both

pub and_second : (a b : Bool) → (a && b) ≡ true → b ≡ true
and_second true b both = both
and_second false b both = absurd (cc)

pub and_both : (a b : Bool) → a ≡ true → b ≡ true → (a && b) ≡ true
and_both true b first second = second
and_both false b first second = first

pub and_true : (a : Bool) → a ≡ (a && true)
and_true true = refl
and_true false = refl

-- a test without another one
pub and_not_false : (a b : Bool) → b ≡ false → a ≡ (a && not b)
and_not_false true b is = ap not (sym is)
and_not_false false b is = refl

pub and_not_either : (a b c : Bool) → ((a && not b) && not c) ≡ (a && not (b || c))
and_not_either true true c = refl
and_not_either true false c = refl
and_not_either false b c = refl

pub or_with : (a b c : Bool) → ((a && c) || (b && c)) ≡ ((a || b) && c)
or_with true b true = refl
or_with true true false = refl
or_with true false false = refl
or_with false b c = refl
