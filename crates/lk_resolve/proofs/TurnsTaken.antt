-- The search goes on by one turn: members that are not wanted are passed, and one that is wanted is added.
use Rattle.std.proofs.Common.{◌≡◌, refl, sym, ap, ◌∙◌, arith, ℕ, zero, suc, ◌+◌, ◌-◌, ◌<◌, ◌≤◌, add-one, nat_eq, nat_lt, Bool, true, false, cond, not, ◌||◌, ◌&&◌, List, [], ◌∷◌, ◌++◌, length, take, drop, drop-cons, get_or, Option, Some, None, lt-ltb, le-ltb, slice_set, inl, inr, ◌⊎◌}
use Rattle.std.proofs.lemmas.Bool.{eqb-false, eqb-true}
use Rattle.std.specs.List.{list_any}
use Rattle.std.proofs.lemmas.List.{append-nil, append_assoc, drop_all, take_all, take_more}
use borrow.Author.Tests.{ltb-false, ltb-true}
use Rattle.lk_resolve.specs.declared.members.Member.{Member}
use Rattle.lk_resolve.specs.NameSearches.{queue_at, waiting_in, wants_at}
use Rattle.lk_resolve.specs.Searches.{member_as, searched}
use Rattle.lk_resolve.specs.States.{State, with_input}
use Rattle.lk_resolve.specs.Turns.{is_passed}
use Rattle.lk_resolve.specs.Wanted.{wants}
use Rattle.lk_resolve.proofs.SearchesGoOn.{searched-ends, searched-skips, searched-takes}

pub waiting-append : (xs ys : List (Option Member)) → waiting_in (xs ++ ys) ≡ waiting_in xs ++ waiting_in ys
waiting-append [] ys = refl
waiting-append (None ∷ xs) ys = waiting-append xs ys
waiting-append (Some m ∷ xs) ys = ap (λ l. member_as m ∷ l) (waiting-append xs ys)

-- ---- members that are not wanted are passed

-- the first of the queue goes to its end
passed_first : (s : State) (x : Option Member) (rest before : List (Option Member)) → wants_at s x ≡ false
    → searched s (waiting_in (x ∷ rest) ++ waiting_in before) ≡ searched s (waiting_in rest ++ waiting_in (before ++ x ∷ []))
passed_first s None rest before e =
    ap (λ l. searched s (waiting_in rest ++ l)) (sym (append-nil (waiting_in before)) ∙ sym (waiting-append before (None ∷ [])))
passed_first s (Some m) rest before e =
    searched-skips s (member_as m) (waiting_in rest ++ waiting_in before) e
    ∙ ap (searched s) (append_assoc (waiting_in rest) (waiting_in before) (member_as m ∷ []))
    ∙ ap (λ l. searched s (waiting_in rest ++ l)) (sym (waiting-append before (Some m ∷ [])))

pass_one : (s : State) (xs : List (Option Member)) (p : ℕ) → wants_at s (get_or xs p None) ≡ false → searched s (queue_at xs p) ≡ searched s (queue_at xs (p + 1))
pass_one s xs p e = by (nat_lt p (length xs)) refl
  where
    by : (b : Bool) → nat_lt p (length xs) ≡ b → searched s (queue_at xs p) ≡ searched s (queue_at xs (p + 1))
    by true h =
        let within : p < length xs = ltb-true p (length xs) h in
        let x : Option Member = get_or xs p None in
        ap (λ l. searched s (waiting_in l ++ waiting_in (take p xs))) (drop-cons xs p None within)
        ∙ passed_first s x (drop (suc p) xs) (take p xs) e
        ∙ (λ i. searched s (waiting_in (drop (sym (add-one p) i) xs) ++ waiting_in (sym (take_more xs p None within) i)))
    by false h =
        let past : length xs ≤ p = ltb-false p (length xs) h in
        let more : length xs ≤ p + 1 = omega arith in
        (λ i. searched s (waiting_in (drop_all p xs past i) ++ waiting_in (take_all p xs past i)))
        ∙ sym (λ i. searched s (waiting_in (drop_all (p + 1) xs more i) ++ waiting_in (take_all (p + 1) xs more i)))

pass_all : (s : State) (xs : List (Option Member)) (p n : ℕ) → ((i : ℕ) → p ≤ i → i < p + n → wants_at s (get_or xs i None) ≡ false) → searched s (queue_at xs p) ≡ searched s (queue_at xs (p + n))
pass_all s xs p zero quiet = ap (λ q. searched s (queue_at xs q)) (omega arith)
pass_all s xs p (suc n) quiet =
    pass_all s xs p n (λ i from to. quiet i from (omega arith))
    ∙ pass_one s xs (p + n) (quiet (p + n) (omega arith) (omega arith))
    ∙ ap (λ q. searched s (queue_at xs q)) (omega arith)

-- past the last place the queue begins again
round_again : (s : State) (xs : List (Option Member)) (p : ℕ) → length xs ≤ p → searched s (queue_at xs p) ≡ searched s (queue_at xs 0)
round_again s xs p past =
    (λ i. searched s (waiting_in (drop_all p xs past i) ++ waiting_in (take_all p xs past i)))
    ∙ ap (searched s) (sym (append-nil (waiting_in xs)))

from_start : (s : State) (xs : List (Option Member)) (n : ℕ) → ((i : ℕ) → i < n → wants_at s (get_or xs i None) ≡ false) → searched s (queue_at xs 0) ≡ searched s (queue_at xs n)
from_start s xs n quiet =
    pass_all s xs 0 n (λ i from to. quiet i (omega arith)) ∙ ap (λ q. searched s (queue_at xs q)) (omega arith)

to_start : (s : State) (xs : List (Option Member)) (p : ℕ) → ((i : ℕ) → p ≤ i → wants_at s (get_or xs i None) ≡ false) → searched s (queue_at xs p) ≡ searched s (queue_at xs 0)
to_start s xs p quiet =
    pass_all s xs p (length xs) (λ i from to. quiet i from) ∙ round_again s xs (p + length xs) (omega arith)

-- the way from one place to another
pub passed : (s : State) (xs : List (Option Member)) (p k : ℕ) → ((i : ℕ) → is_passed p k i ≡ true → wants_at s (get_or xs i None) ≡ false) → searched s (queue_at xs p) ≡ searched s (queue_at xs k)
passed s xs p k quiet = by (nat_lt k p) refl
  where
    not_below : (i q : ℕ) → q ≤ i → not (nat_lt i q) ≡ true
    not_below i q h = ap (λ b. not b) (le-ltb i q h)

    or_true : (b : Bool) → (b || true) ≡ true
    or_true true = refl
    or_true false = refl

    by : (b : Bool) → nat_lt k p ≡ b → searched s (queue_at xs p) ≡ searched s (queue_at xs k)
    by true h =
        to_start s xs p (λ i from. quiet i ((λ j. cond (h j) (not_below i p from j || nat_lt i k) (not (nat_lt i p) && nat_lt i k))))
        ∙ from_start s xs k (λ i to. quiet i ((λ j. cond (h j) (not (nat_lt i p) || lt-ltb i k to j) (not (nat_lt i p) && nat_lt i k)) ∙ or_true (not (nat_lt i p))))
    by false h =
        let from : p ≤ k = ltb-false k p h in
        let at : p + (k - p) ≡ k = omega arith in
        pass_all s xs p (k - p) (λ i low high. quiet i (λ j. cond (h j) (not (nat_lt i p) || nat_lt i k) (not_below i p low j && lt-ltb i k (omega arith) j)))
        ∙ ap (λ q. searched s (queue_at xs q)) at

-- ---- where none is wanted the search has ended

none_waiting : (s : State) (xs : List (Option Member)) → ((i : ℕ) → wants_at s (get_or xs i None) ≡ false) → list_any (wants s) (waiting_in xs) ≡ false
none_waiting s [] quiet = refl
none_waiting s (None ∷ xs) quiet = none_waiting s xs (λ i. quiet (suc i))
none_waiting s (Some m ∷ xs) quiet =
    λ j. quiet 0 j || none_waiting s xs (λ i. quiet (suc i)) j

pub ended : (s : State) (xs : List (Option Member)) (p : ℕ) → ((i : ℕ) → wants_at s (get_or xs i None) ≡ false) → searched s (queue_at xs p) ≡ s
ended s xs p quiet =
    to_start s xs p (λ i from. quiet i)
    ∙ ap (searched s) (append-nil (waiting_in xs))
    ∙ searched-ends s (waiting_in xs) (none_waiting s xs quiet)

-- ---- one that is wanted is added

record TakenOut (xs left : List (Option Member)) (k : ℕ) (m : Member) : Type 0 where
  ahead : waiting_in (drop k xs) ≡ member_as m ∷ waiting_in (drop k left)
  before : take k left ≡ take k xs
  fewer : length (waiting_in xs) ≡ suc (length (waiting_in left))

taken_out : (xs : List (Option Member)) (k : ℕ) (m : Member) → get_or xs k None ≡ Some m → TakenOut xs (slice_set xs k None) k m
taken_out [] k m e = absurd (cc)
taken_out (x ∷ xs) zero m e =
    let is : x ≡ Some m = e in
    record { ahead = ap (λ y. waiting_in (y ∷ xs)) is; before = refl; fewer = ap (λ y. length (waiting_in (y ∷ xs))) is }
taken_out (None ∷ xs) (suc k) m e =
    let rest = taken_out xs k m e in
    record { ahead = rest.ahead; before = ap (λ l. None ∷ l) rest.before; fewer = rest.fewer }
taken_out (Some y ∷ xs) (suc k) m e =
    let rest = taken_out xs k m e in
    record { ahead = rest.ahead; before = ap (λ l. Some y ∷ l) rest.before; fewer = ap (λ n. suc n) rest.fewer }

pub taken : (s : State) (xs : List (Option Member)) (k : ℕ) (m : Member) → get_or xs k None ≡ Some m → wants s (member_as m) ≡ true
    → searched s (queue_at xs k) ≡ searched (with_input s (member_as m)) (queue_at (slice_set xs k None) k)
taken s xs k m at wanted =
    let out = taken_out xs k m at in
    (λ i. searched s (out.ahead i ++ waiting_in (sym out.before i)))
    ∙ searched-takes s (member_as m) (waiting_in (drop k (slice_set xs k None)) ++ waiting_in (take k (slice_set xs k None))) wanted

pub taken-fewer : (xs : List (Option Member)) (k : ℕ) (m : Member) → get_or xs k None ≡ Some m → length (waiting_in (slice_set xs k None)) < length (waiting_in xs)
taken-fewer xs k m at =
    let out = taken_out xs k m at in
    let one : length (waiting_in xs) ≡ suc (length (waiting_in (slice_set xs k None))) = out.fewer in
    omega arith

-- the other places are as before
pub others : (xs : List (Option Member)) (k i : ℕ) → ((nat_eq i k ≡ false) × (get_or (slice_set xs k None) i None ≡ get_or xs i None)) ⊎ (get_or (slice_set xs k None) i None ≡ None)
others xs k i = by (nat_eq i k) refl
  where
    there : (ys : List (Option Member)) (n : ℕ) → get_or (slice_set ys n None) n None ≡ None
    there [] n = refl
    there (y ∷ ys) zero = refl
    there (y ∷ ys) (suc n) = there ys n

    elsewhere : (ys : List (Option Member)) (n j : ℕ) → (j ≡ n → ⊥) → get_or (slice_set ys n None) j None ≡ get_or ys j None
    elsewhere [] n j apart = refl
    elsewhere (y ∷ ys) zero zero apart = absurd (apart refl)
    elsewhere (y ∷ ys) zero (suc j) apart = refl
    elsewhere (y ∷ ys) (suc n) zero apart = refl
    elsewhere (y ∷ ys) (suc n) (suc j) apart = elsewhere ys n j (λ e. apart (ap (λ q. suc q) e))

    by : (b : Bool) → nat_eq i k ≡ b → ((nat_eq i k ≡ false) × (get_or (slice_set xs k None) i None ≡ get_or xs i None)) ⊎ (get_or (slice_set xs k None) i None ≡ None)
    by true e = inr (ap (λ n. get_or (slice_set xs n None) i None) (sym (eqb-true i k e)) ∙ there xs i)
    by false e = inl (e, elsewhere xs k i (eqb-false i k e))
