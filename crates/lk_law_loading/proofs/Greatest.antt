-- The greatest of numbers of items, and bounds of it.
use Rattle.std.specs.Prelude.{◌≡◌, ℕ, Bool, true, false, List, [], ◌∷◌, ◌≤◌, max, fold, filter, map, refl}
use Rattle.std.specs.List.{AllByRecursion}
use Rattle.std.proofs.Common.{arith, inl, inr, subst, sym}
use Rattle.std.proofs.lemmas.Bool.{both_ways, cases_lt}
use Rattle.lk_model.specs.Amounts.{round_up}
use Rattle.lk_model.specs.FullPlace.{greatest}
use Rattle.lk_model.proofs.Rising.{below_greatest, all_of_map}
use Rattle.lk_law_placement.proofs.DistinctLists.{all_mapped}

-- what holds of the items that pass a test, and of items where they pass it
pub all_unfiltered : {A : Type 0} (P : A → Type 0) (test : A → Bool) (xs : List A) → AllByRecursion P (filter test xs) → AllByRecursion (λ x. test x ≡ true → P x) xs
all_unfiltered P test [] all = tt
all_unfiltered {A} P test (x ∷ xs) all = go (test x) refl (all_unfiltered P test xs)
  where
    go :
        (b : Bool)
        → test x ≡ b
        → (AllByRecursion P (filter test xs) → AllByRecursion (λ y. test y ≡ true → P y) xs)
        → AllByRecursion (λ y. test y ≡ true → P y) (x ∷ xs)
    go true e rest = let parts = rw e at all in (λ passes. parts.0, rest parts.1)
    go false e rest = (λ passes. absurd (both_ways (test x) e passes), rest (rw e at all))

pub all_filtered : {A : Type 0} (P : A → Type 0) (test : A → Bool) (xs : List A) → AllByRecursion (λ x. test x ≡ true → P x) xs → AllByRecursion P (filter test xs)
all_filtered P test [] all = tt
all_filtered {A} P test (x ∷ xs) all = go (test x) refl (all_filtered P test xs all.1)
  where
    go : (b : Bool) → test x ≡ b → AllByRecursion P (filter test xs) → AllByRecursion P (filter test (x ∷ xs))
    go true e rest = rw e (all.0 e, rest)
    go false e rest = rw e rest

-- the greatest is not above a bound of all
fold_under : (bound m : ℕ) (ns : List ℕ) → m ≤ bound → AllByRecursion (λ n. n ≤ bound) ns → fold max m ns ≤ bound
fold_under bound m [] first all = first
fold_under bound m (n ∷ ns) first all = fold_under bound (max m n) ns (let here = all.0 in omega (arith, first, here)) all.1

pub greatest_under : (bound : ℕ) (ns : List ℕ) → AllByRecursion (λ n. n ≤ bound) ns → greatest ns ≤ bound
greatest_under bound ns all = fold_under bound 0 ns (omega arith) all

-- nor is it when it is rounded up, where none is
pub greater_rounded : (bound a m n : ℕ) → round_up m a ≤ bound → round_up n a ≤ bound → round_up (max m n) a ≤ bound
greater_rounded bound a m n first second =
    elim (cases_lt m n) [
      | inl less ↦ let whole : max m n ≡ n = omega arith in subst (λ k. round_up k a ≤ bound) (sym whole) second
      | inr more ↦ let whole : max m n ≡ m = omega arith in subst (λ k. round_up k a ≤ bound) (sym whole) first
    ]

fold_rounded : (bound a m : ℕ) (ns : List ℕ) → round_up m a ≤ bound → AllByRecursion (λ n. round_up n a ≤ bound) ns → round_up (fold max m ns) a ≤ bound
fold_rounded bound a m [] first all = first
fold_rounded bound a m (n ∷ ns) first all = fold_rounded bound a (max m n) ns (greater_rounded bound a m n first all.0) all.1

pub greatest_rounded : (bound a : ℕ) (ns : List ℕ) → round_up 0 a ≤ bound → AllByRecursion (λ n. round_up n a ≤ bound) ns → round_up (greatest ns) a ≤ bound
greatest_rounded bound a ns first all = fold_rounded bound a 0 ns first all

-- ---- numbers of the items that pass two tests

abbrev pub greatest_where : {A : Type 0} → (A → ℕ) → (A → Bool) → (A → Bool) → List A → ℕ
greatest_where f p q xs = greatest (map f (filter q (filter p xs)))

pub where_under :
    {A : Type 0} (f : A → ℕ) (p q : A → Bool) (bound : ℕ) (xs : List A)
    → AllByRecursion (λ x. p x ≡ true → q x ≡ true → f x ≤ bound) xs
    → greatest_where f p q xs ≤ bound
where_under f p q bound xs all =
    greatest_under bound (map f (filter q (filter p xs)))
    (all_mapped f (λ n. n ≤ bound) (filter q (filter p xs))
    (all_filtered (λ x. f x ≤ bound) q (filter p xs)
    (all_filtered (λ x. q x ≡ true → f x ≤ bound) p xs all)))

pub where_rounded :
    {A : Type 0} (f : A → ℕ) (p q : A → Bool) (bound a : ℕ) (xs : List A)
    → round_up 0 a ≤ bound
    → AllByRecursion (λ x. p x ≡ true → q x ≡ true → round_up (f x) a ≤ bound) xs
    → round_up (greatest_where f p q xs) a ≤ bound
where_rounded f p q bound a xs first all =
    greatest_rounded bound a (map f (filter q (filter p xs))) first
    (all_mapped f (λ n. round_up n a ≤ bound) (filter q (filter p xs))
    (all_filtered (λ x. round_up (f x) a ≤ bound) q (filter p xs)
    (all_filtered (λ x. q x ≡ true → round_up (f x) a ≤ bound) p xs all)))

pub below_where :
    {A : Type 0} (f : A → ℕ) (p q : A → Bool) (xs : List A)
    → AllByRecursion (λ x. p x ≡ true → q x ≡ true → f x ≤ greatest_where f p q xs) xs
below_where f p q xs =
    all_unfiltered (λ x. q x ≡ true → f x ≤ greatest_where f p q xs) p xs
    (all_unfiltered (λ x. f x ≤ greatest_where f p q xs) q (filter p xs)
    (all_of_map f (λ n. n ≤ greatest_where f p q xs) (filter q (filter p xs)) (below_greatest (map f (filter q (filter p xs))))))
