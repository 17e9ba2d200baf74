-- The search over what is kept goes on by one member, ends where none is wanted, and is the model's
-- search.
use Rattle.std.proofs.Common.{◌≡◌, refl, sym, ap, ◌∙◌, ℕ, zero, suc, Bool, true, false, cond, List, [], ◌∷◌, ◌++◌, fold, length, Option, Some, None}
use Rattle.std.specs.List.{list_any}
use Rattle.std.proofs.lemmas.List.{append-nil, append_assoc}
use Rattle.lk_model.specs.Adding.{is_wanted_member, with_one}
use Rattle.lk_model.specs.Numbered.{Numbered}
use Rattle.lk_model.specs.Queues.{listed_of, listed_within, turn}
use Rattle.lk_model.proofs.Queues.{listed_of-ends, listed_of-skips, listed_of-takes}
use Rattle.lk_resolve.specs.Searches.{searched}
use Rattle.lk_resolve.specs.States.{State, state_of, with_input}
use Rattle.lk_resolve.specs.Wanted.{wants}
use Rattle.lk_resolve.proofs.StatesGoOn.{goes_on}
use Rattle.lk_resolve.proofs.WantedNames.{wants_is}

pub searched-takes : (s : State) (m : Numbered) (ms : List Numbered) → wants s m ≡ true → searched s (m ∷ ms) ≡ searched (with_input s m) ms
unfolding searched
searched-takes s m ms e = ap (fold with_input s) (listed_of-takes wants with_input s m ms e)

pub searched-skips : (s : State) (m : Numbered) (ms : List Numbered) → wants s m ≡ false → searched s (m ∷ ms) ≡ searched s (ms ++ m ∷ [])
unfolding searched
searched-skips s m ms e = ap (fold with_input s) (listed_of-skips wants with_input s m ms e)

pub searched-ends : (s : State) (ms : List Numbered) → list_any (wants s) ms ≡ false → searched s ms ≡ s
unfolding searched
searched-ends s ms e = ap (fold with_input s) (listed_of-ends wants with_input s ms e)

pub searched-none : (s : State) → searched s [] ≡ s
unfolding searched
searched-none s = refl

-- what a search lists from its next member on
abbrev listed_after : {S M : Type 0} → (S → List M → List M) → (S → M → S) → S → Option (M × List M) → List M
listed_after later step s o = elim o [ None ↦ [] | Some found ↦ found.0 ∷ later (step s found.0) found.1 ]

-- two searches whose states go along list the same
module _ {S T M : Type 0} (wants1 : S → M → Bool) (step1 : S → M → S) (wants2 : T → M → Bool) (step2 : T → M → T) (along : T → S) (same : (t : T) (m : M) → wants1 (along t) m ≡ wants2 t m) (steps : (t : T) (m : M) → step1 (along t) m ≡ along (step2 t m)) where
  turn-along : (t : T) (past ms : List M) → turn (wants1 (along t)) past ms ≡ turn (wants2 t) past ms
  turn-along t past [] = refl
  turn-along t past (m ∷ ms) = λ i. cond (same t m i) (Some (m, ms ++ past)) (turn-along t (past ++ m ∷ []) ms i)

  listed-along : (n : ℕ) (t : T) (waiting : List M) → listed_within wants1 step1 n (along t) waiting ≡ listed_within wants2 step2 n t waiting
  listed-along zero t waiting = refl
  listed-along (suc n) t waiting =
      ap (listed_after (listed_within wants1 step1 n) step1 (along t)) (turn-along t [] waiting)
      ∙ by (turn (wants2 t) [] waiting) (listed-along n)
    where
      by : (o : Option (M × List M)) → ((u : T) (rest : List M) → listed_within wants1 step1 n (along u) rest ≡ listed_within wants2 step2 n u rest)
          → listed_after (listed_within wants1 step1 n) step1 (along t) o ≡ listed_after (listed_within wants2 step2 n) step2 t o
      by None later = refl
      by (Some (m, rest)) later = ap (λ (ms : List M). m ∷ ms) (ap (λ (s : S). listed_within wants1 step1 n s rest) (steps t m) ∙ later (step2 t m) rest)

  pub listed_of-along : (t : T) (waiting : List M) → listed_of wants1 step1 (along t) waiting ≡ listed_of wants2 step2 t waiting
  listed_of-along t waiting = listed-along (length waiting) t waiting

  pub fold-along : (t : T) (ms : List M) → fold step1 (along t) ms ≡ along (fold step2 t ms)
  fold-along t [] = refl
  fold-along t (m ∷ ms) = ap (λ (s : S). fold step1 s ms) (steps t m) ∙ fold-along (step2 t m) ms

ones : (added ms : List Numbered) → fold with_one added ms ≡ added ++ ms
ones added [] = sym (append-nil added)
ones added (m ∷ ms) = ones (added ++ m ∷ []) ms ∙ append_assoc added (m ∷ []) ms

-- what the search adds is what the model's search lists
pub search_is : (entry : List ℕ) (paths : List (List ℕ)) (added waiting : List Numbered) → searched (state_of entry paths added) waiting ≡ state_of entry paths (added ++ listed_of (is_wanted_member entry) with_one added waiting)
unfolding searched
search_is entry paths added waiting =
    let along : List Numbered → State = state_of entry paths in
    let listed : List Numbered = listed_of (is_wanted_member entry) with_one added waiting in
    ap (fold with_input (along added)) (listed_of-along wants with_input (is_wanted_member entry) with_one along (wants_is entry paths) (goes_on entry paths) added waiting)
    ∙ fold-along wants with_input (is_wanted_member entry) with_one along (wants_is entry paths) (goes_on entry paths) added listed
    ∙ ap along (ones added listed)
