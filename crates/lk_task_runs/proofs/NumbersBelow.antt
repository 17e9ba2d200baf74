-- Laws of the numbers below a bound, and of lists of numbers.
use Rattle.std.proofs.Common.{◌≡◌, ℕ, zero, suc, ◌+◌, ◌==◌, ◌<◌, ◌≤◌, Bool, true, false, ◌&&◌, ◌||◌, cond, List, [], ◌∷◌, length, get_or, map, Option, None, Some, is_some, refl, sym, ap, ◌∙◌, subst, inl, inr, Decides, arith}
use Rattle.std.specs.List.{list_any, list_all}
use Rattle.std.proofs.lemmas.Bool.{false≢true, both_ways, false_from_ne_true, eqb-true, eq-eqb, or_parts, or_cases, or_left, or_right, and_parts, and_from, cond-true, cond-false, cases_lt, cases_eq}
use Rattle.std.proofs.lemmas.Bool.Decides.{Decides-below_or}
use Rattle.std.proofs.lemmas.Option.{none-some, same_Some}
use Rattle.lk_task_runs.specs.Below.{has, any_below, count_below, first_from, first_below}

pub any_below_decides : (p : ℕ → Bool) (n : ℕ) → Decides (any_below p n) ((k : ℕ) × (k < n) × (p k ≡ true))
any_below_decides p n = Decides-below_or p (λ k. p k ≡ true) (any_below p) (λ k. (λ e. e, λ e. e)) refl (λ _. refl) n

pub any_below_at : (p : ℕ → Bool) (n k : ℕ) → k < n → p k ≡ true → any_below p n ≡ true
any_below_at p n k l e = (any_below_decides p n).1 (k, l, e)

pub any_below_some : (p : ℕ → Bool) (n : ℕ) → any_below p n ≡ true → (k : ℕ) × (k < n) × (p k ≡ true)
any_below_some p n e = (any_below_decides p n).0 e

pub none_below : (p : ℕ → Bool) (n k : ℕ) → any_below p n ≡ false → k < n → p k ≡ false
none_below p n k e l = false_from_ne_true (p k) (λ h. both_ways (any_below p n) e (any_below_at p n k l h))

pub any_below_none : (p : ℕ → Bool) (n : ℕ) → ((k : ℕ) → k < n → p k ≡ false) → any_below p n ≡ false
any_below_none p n h = false_from_ne_true (any_below p n) (λ e. let w = any_below_some p n e in both_ways (p w.0) (h w.0 w.1) w.2)

cond_zero : (b : Bool) (n : ℕ) → cond b 1 0 + n ≡ 0 → (b ≡ false) × (n ≡ 0)
cond_zero true n h = absurd (omega arith)
cond_zero false n h = (refl, omega arith)

-- a count of 0 says that none passes
pub count_zero : (p : ℕ → Bool) (n k : ℕ) → count_below p n ≡ 0 → k < n → p k ≡ false
count_zero p zero k e l = absurd (omega arith)
count_zero p (suc n) k e l =
    let parts = cond_zero (p n) (count_below p n) e in
    elim (cases_lt k n) [ inl below ↦ count_zero p n k parts.1 below | inr above ↦ (let same : n ≡ k = omega arith in subst (λ (j : ℕ). p j ≡ false) same parts.0) ]

cond_none : (b : Bool) (n : ℕ) → b ≡ false → n ≡ 0 → cond b 1 0 + n ≡ 0
cond_none true n e h = absurd (false≢true (sym e))
cond_none false n e h = omega arith

pub count_none : (p : ℕ → Bool) (n : ℕ) → ((k : ℕ) → k < n → p k ≡ false) → count_below p n ≡ 0
count_none p zero h = refl
count_none p (suc n) h = cond_none (p n) (count_below p n) (h n (omega arith)) (count_none p n (λ k l. h k (omega arith)))

first_none_step : (p : ℕ → Bool) (s n k : ℕ) (b : Bool) → p s ≡ b → cond b (Some s) (first_from p (s + 1) n) ≡ None → s ≤ k → k < s + suc n → (first_from p (s + 1) n ≡ None → s + 1 ≤ k → k < (s + 1) + n → p k ≡ false) → p k ≡ false
first_none_step p s n k true e h low high later = absurd (none-some s (sym h))
first_none_step p s n k false e h low high later =
    elim (cases_eq s k) [ inl same ↦ subst (λ (j : ℕ). p j ≡ false) same e | inr other ↦ later h (omega (arith, other)) (omega arith) ]

pub first_none : (p : ℕ → Bool) (s n k : ℕ) → first_from p s n ≡ None → s ≤ k → k < s + n → p k ≡ false
first_none p s zero k e low high = absurd (omega arith)
first_none p s (suc n) k e low high = first_none_step p s n k (p s) refl e low high (first_none p (s + 1) n k)

first_some_step : (p : ℕ → Bool) (s n k : ℕ) (b : Bool) → p s ≡ b → cond b (Some s) (first_from p (s + 1) n) ≡ Some k → (first_from p (s + 1) n ≡ Some k → (s + 1 ≤ k) × (k < (s + 1) + n) × (p k ≡ true) × ((j : ℕ) → s + 1 ≤ j → j < k → p j ≡ false)) → (s ≤ k) × (k < s + suc n) × (p k ≡ true) × ((j : ℕ) → s ≤ j → j < k → p j ≡ false)
first_some_step p s n k true e h later =
    let same : s ≡ k = same_Some s k h in
    (omega arith, omega arith, subst (λ (j : ℕ). p j ≡ true) same e, λ j low below. absurd (omega arith))
first_some_step p s n k false e h later =
    let found = later h in
    (omega (arith, found.0), omega (arith, found.1), found.2, λ j low below. elim (cases_eq s j) [ inl same ↦ subst (λ (i : ℕ). p i ≡ false) same e | inr other ↦ found.3 j (omega (arith, other)) below ])

-- what is known of the first number that passes
pub first_some : (p : ℕ → Bool) (s n k : ℕ) → first_from p s n ≡ Some k → (s ≤ k) × (k < s + n) × (p k ≡ true) × ((j : ℕ) → s ≤ j → j < k → p j ≡ false)
first_some p s zero k e = absurd (none-some k e)
first_some p s (suc n) k e = first_some_step p s n k (p s) refl e (first_some p (s + 1) n k)

pub first_absent : (p : ℕ → Bool) (s n : ℕ) → ((k : ℕ) → s ≤ k → k < s + n → p k ≡ false) → first_from p s n ≡ None
first_absent p s zero h = refl
first_absent p s (suc n) h =
    cond-false (p s) (Some s) (first_from p (s + 1) n) (h s (omega arith) (omega arith)) ∙ first_absent p (s + 1) n (λ k low high. h k (omega arith) (omega arith))

pub first_is : (p : ℕ → Bool) (s n k : ℕ) → s ≤ k → k < s + n → p k ≡ true → ((j : ℕ) → s ≤ j → j < k → p j ≡ false) → first_from p s n ≡ Some k
first_is p s zero k low high e h = absurd (omega arith)
first_is p s (suc n) k low high e h =
    elim (cases_eq s k) [
      | inl same ↦ cond-true (p s) (Some s) (first_from p (s + 1) n) (subst (λ (j : ℕ). p j ≡ true) (sym same) e) ∙ ap (λ (j : ℕ). Some j) same
      | inr other ↦ cond-false (p s) (Some s) (first_from p (s + 1) n) (h s (omega arith) (omega (arith, other))) ∙ first_is p (s + 1) n k (omega (arith, other)) (omega arith) e (λ j from below. h j (omega arith) below)
    ]

first_exists_step : (p : ℕ → Bool) (n k : ℕ) → k < n → p k ≡ true → (o : Option ℕ) → first_below p n ≡ o → is_some o ≡ true
first_exists_step p n k l e None h = absurd (both_ways (p k) (first_none p 0 n k h (omega arith) (omega arith)) e)
first_exists_step p n k l e (Some j) h = refl

pub first_exists : (p : ℕ → Bool) (n k : ℕ) → k < n → p k ≡ true → is_some (first_below p n) ≡ true
first_exists p n k l e = first_exists_step p n k l e (first_below p n) refl

-- where none of a list passes, a number in it does not
pub none_at : (p : ℕ → Bool) (xs : List ℕ) (n : ℕ) → list_any p xs ≡ false → has n xs ≡ true → p n ≡ false
none_at p [] n e h = absurd (false≢true h)
none_at p (x ∷ xs) n e h =
    let parts = or_parts (p x) (list_any p xs) e in
    elim (or_cases (x == n) (has n xs) h) [ inl here ↦ subst (λ (k : ℕ). p k ≡ false) (eqb-true x n here) parts.0 | inr later ↦ none_at p xs n parts.1 later ]

pub has_head : (n : ℕ) (xs : List ℕ) → has n (n ∷ xs) ≡ true
has_head n xs = or_left (n == n) (has n xs) (eq-eqb n n refl)

pub has_tail : (n m : ℕ) (xs : List ℕ) → has n xs ≡ true → has n (m ∷ xs) ≡ true
has_tail n m xs h = or_right (m == n) (has n xs) h

-- where all pass, the one at a place does
pub all_at : {X : Type 0} (p : X → Bool) (xs : List X) (i : ℕ) (d : X) → list_all p xs ≡ true → i < length xs → p (get_or xs i d) ≡ true
all_at p [] i d e l = absurd (omega arith)
all_at p (x ∷ xs) zero d e l = (and_parts (p x) (list_all p xs) e).0
all_at p (x ∷ xs) (suc i) d e l = all_at p xs i d (and_parts (p x) (list_all p xs) e).1 (omega arith)

pub all_from : {X : Type 0} (p : X → Bool) (xs : List X) (d : X) → ((i : ℕ) → i < length xs → p (get_or xs i d) ≡ true) → list_all p xs ≡ true
all_from p [] d h = refl
all_from p (x ∷ xs) d h = and_from (p x) (list_all p xs) (h 0 (omega arith)) (all_from p xs d (λ i l. h (suc i) (omega arith)))

-- where none passes, the one at a place does not
pub any_none_at : {X : Type 0} (p : X → Bool) (xs : List X) (i : ℕ) (d : X) → list_any p xs ≡ false → i < length xs → p (get_or xs i d) ≡ false
any_none_at p [] i d e l = absurd (omega arith)
any_none_at p (x ∷ xs) zero d e l = (or_parts (p x) (list_any p xs) e).0
any_none_at p (x ∷ xs) (suc i) d e l = any_none_at p xs i d (or_parts (p x) (list_any p xs) e).1 (omega arith)

-- where one of two is true only if the other is false, it is so the other way round
pub flipped : (a b : Bool) → (a ≡ true → b ≡ false) → b ≡ true → a ≡ false
flipped a b h e = false_from_ne_true a (λ t. both_ways b (h t) e)

pub rest_false : (x y : Bool) → (x && y) ≡ false → x ≡ true → y ≡ false
rest_false true y h e = h
rest_false false y h e = absurd (false≢true e)

pub or_comm : (x y : Bool) → (x || y) ≡ (y || x)
or_comm true true = refl
or_comm true false = refl
or_comm false true = refl
or_comm false false = refl

pub get_or-map_any : {A B : Type 0} (f : A → B) (xs : List A) (i : ℕ) (d : A) → get_or (map f xs) i (f d) ≡ f (get_or xs i d)
get_or-map_any f [] i d = refl
get_or-map_any f (x ∷ xs) zero d = refl
get_or-map_any f (x ∷ xs) (suc i) d = get_or-map_any f xs i d
