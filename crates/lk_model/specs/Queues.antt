-- This project's own: a search that goes round a list of members again and again, and lists each
-- member that is wanted when its turn comes. The members not listed yet are in a queue, in cyclic
-- order after the one listed last: those behind it, then those before it.
use Rattle.std.specs.Prelude.{◌≡◌, ℕ, zero, suc, Bool, cond, List, [], ◌∷◌, ◌++◌, length, Option, Some, None}

-- the first member of a queue that passes, and the queue after it: those behind it, then those
-- before it, which were passed over (`past` holds these already)
abbrev pub turn : {M : Type 0} → (M → Bool) → List M → List M → Option (M × List M)
turn passes past [] = None
turn passes past (m ∷ ms) = cond (passes m) (Some (m, ms ++ past)) (turn passes (past ++ m ∷ []) ms)

-- the next member of a queue, and the queue after it
abbrev pub next : {M : Type 0} → (M → Bool) → List M → Option (M × List M)
next passes waiting = turn passes [] waiting

-- the next member is this one, and P holds of the queue after it
abbrev pub NextIs : {M : Type 0} → Option (M × List M) → M → (List M → Type 0) → Type 0
NextIs None m P = ⊥
NextIs (Some (found, rest)) m P = (found ≡ m) × P rest

-- what a search means, where `wants s m` says whether m is wanted in the state s, and `step s m` is
-- the state after m was listed
module _ {S M : Type 0} (wants : S → M → Bool) (step : S → M → S) where
  -- each listed member is the next one that is wanted, and after the last none is
  abbrev pub IsListed : S → List M → List M → Type 0
  IsListed s waiting [] = next (wants s) waiting ≡ None
  IsListed s waiting (m ∷ listed) = NextIs (next (wants s) waiting) m (λ rest. IsListed (step s m) rest listed)

  -- the members that the search lists, of a queue with as many members as the number says
  abbrev pub listed_within : ℕ → S → List M → List M
  listed_within zero s waiting = []
  listed_within (suc n) s waiting = elim (next (wants s) waiting) [ None ↦ [] | Some found ↦ found.0 ∷ listed_within n (step s found.0) found.1 ]

  -- the members that the search lists
  abbrev pub listed_of : S → List M → List M
  listed_of s waiting = listed_within (length waiting) s waiting
