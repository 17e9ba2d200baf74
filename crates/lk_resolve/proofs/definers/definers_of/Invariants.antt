use Rattle.std.proofs.Common.{◌≡◌, ℕ, List, nat_lt, cond, false, None, get_or}
use Rattle.lk_resolve.specs.Definers.{defines_in, is_definer}
use Rattle.lk_resolve.proofs.definers.definers_of.Given as goal

abbrev pub invariant-loop-place : goal.invariant-loop-place
invariant-loop-place l = (name : List ℕ) (i : ℕ) → is_definer l.definers name i ≡ cond (nat_lt i l.place) (defines_in (get_or l.members i None) name) false
