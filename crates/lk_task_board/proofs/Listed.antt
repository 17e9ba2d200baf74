-- Numbers in lists.
use Rattle.std.proofs.Common.{◌≡◌, ℕ, zero, suc, ◌==◌, ◌+◌, ◌<◌, Bool, true, false, not, ◌&&◌, ◌||◌, List, [], ◌∷◌, length, get_or, drop, refl, sym, ap, ◌∙◌, arith}
use Rattle.std.specs.List.{list_any}
use Rattle.std.proofs.lemmas.Bool.{false≢true, or_left, or_right}
use Rattle.std.proofs.lemmas.List.{at_drop_more}
use Rattle.lk_task_runs.specs.Below.{has}
use Rattle.lk_task_runs.proofs.NumbersBelow.{has_head, has_tail}

-- a number at a place of a list is in it
pub has_at : (xs : List ℕ) (i : ℕ) → i < length xs → has (get_or xs i 0) xs ≡ true
has_at [] i l = absurd (omega arith)
has_at (x ∷ xs) zero l = has_head x xs
has_at (x ∷ xs) (suc i) l = has_tail (get_or xs i 0) x xs (has_at xs i (omega arith))

-- whether a number is in what is left of a list, one step on
pub has_more : (xs : List ℕ) (i n : ℕ) → i < length xs → has n (drop i xs) ≡ (get_or xs i 0 == n || has n (drop (i + 1) xs))
has_more xs i n l = at_drop_more (has n) xs i 0 l

or_assoc : (x y z : Bool) → ((x || y) || z) ≡ (x || (y || z))
or_assoc true y z = refl
or_assoc false y z = refl

-- one more lock
pub locked_more : (now more rest all : Bool) → (now || (more || rest)) ≡ all → ((now || more) || rest) ≡ all
locked_more now more rest all e = or_assoc now more rest ∙ e

and_nor : (x y z : Bool) → ((x && not y) && not z) ≡ (x && not (y || z))
and_nor true true z = refl
and_nor true false z = refl
and_nor false y z = refl

-- one lock less
pub unlocked_more : (now more rest all : Bool) → (now && not (more || rest)) ≡ all → ((now && not more) && not rest) ≡ all
unlocked_more now more rest all e = and_nor now more rest ∙ e
