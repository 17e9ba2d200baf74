-- What holds of every item of a list holds of those that are found in it.
use Rattle.std.proofs.Common.{◌≡◌, refl, subst, ℕ, zero, suc, ◌≤◌, max, arith, Bool, true, false, cond, List, [], ◌∷◌, ◌++◌, map, filter, find, fold, slice_get, Option, Some, None}
use Rattle.std.specs.List.{AllByRecursion}
use Rattle.std.proofs.lemmas.Bool.{both_ways}
use Rattle.lk_model.specs.FullPlace.{greatest}

pub all_always : {A : Type 0} {P : A → Type 0} → ((x : A) → P x) → (xs : List A) → AllByRecursion P xs
all_always h [] = tt
all_always h (x ∷ xs) = (h x, all_always h xs)

pub all_joined : {A : Type 0} (P : A → Type 0) (xs ys : List A) → AllByRecursion P xs → AllByRecursion P ys → AllByRecursion P (xs ++ ys)
all_joined P [] ys first second = second
all_joined P (x ∷ xs) ys first second = (first.0, all_joined P xs ys first.1 second)

pub all_mapped : {A B : Type 0} (f : A → B) (P : B → Type 0) (xs : List A) → AllByRecursion (λ x. P (f x)) xs → AllByRecursion P (map f xs)
all_mapped f P [] all = tt
all_mapped f P (x ∷ xs) all = (all.0, all_mapped f P xs all.1)

pub all_both : {A : Type 0} {P Q R : A → Type 0} → ((x : A) → P x → Q x → R x) → (xs : List A) → AllByRecursion P xs → AllByRecursion Q xs → AllByRecursion R xs
all_both h [] first second = tt
all_both h (x ∷ xs) first second = (h x first.0 second.0, all_both h xs first.1 second.1)

pub all_unfiltered : {A : Type 0} (P : A → Type 0) (test : A → Bool) (xs : List A) → AllByRecursion P (filter test xs) → AllByRecursion (λ x. test x ≡ true → P x) xs
all_unfiltered P test [] all = tt
all_unfiltered {A} P test (x ∷ xs) all = go (test x) refl (all_unfiltered P test xs)
  where
    go : (b : Bool) → test x ≡ b → (AllByRecursion P (filter test xs) → AllByRecursion (λ y. test y ≡ true → P y) xs) → AllByRecursion (λ y. test y ≡ true → P y) (x ∷ xs)
    go true e rest = let parts = rw e at all in (λ passes. parts.0, rest parts.1)
    go false e rest = (λ passes. absurd (both_ways (test x) e passes), rest (rw e at all))

-- of the first that passes a test, and that it passes
pub all_found : {A : Type 0} (P : A → Type 0) (test : A → Bool) (xs : List A) (x : A) → AllByRecursion P xs → find test xs ≡ Some x → P x × (test x ≡ true)
all_found P test [] x all at = absurd (cc)
all_found {A} P test (y ∷ ys) x all at = go (test y) refl at (all_found P test ys x all.1)
  where
    go : (b : Bool) → test y ≡ b → cond b (Some y) (find test ys) ≡ Some x → (find test ys ≡ Some x → P x × (test x ≡ true)) → P x × (test x ≡ true)
    go true e at rest = let same : y ≡ x = cc in (subst P same all.0, subst (λ z. test z ≡ true) same e)
    go false e at rest = rest at

-- of the one with a number
pub all_at : {A : Type 0} (P : A → Type 0) (xs : List A) (n : ℕ) (x : A) → AllByRecursion P xs → slice_get xs n ≡ Some x → P x
all_at P [] n x all at = absurd (cc)
all_at P (y ∷ ys) zero x all at = let same : y ≡ x = cc in subst P same all.0
all_at P (y ∷ ys) (suc n) x all at = all_at P ys n x all.1 at

-- the greatest is not above a bound of all
fold_under : (bound m : ℕ) (ns : List ℕ) → m ≤ bound → AllByRecursion (λ n. n ≤ bound) ns → fold max m ns ≤ bound
fold_under bound m [] first all = first
fold_under bound m (n ∷ ns) first all = fold_under bound (max m n) ns (let here = all.0 in omega (arith, first, here)) all.1

pub greatest_under : (bound : ℕ) (ns : List ℕ) → AllByRecursion (λ n. n ≤ bound) ns → greatest ns ≤ bound
greatest_under bound ns all = fold_under bound 0 ns (omega arith) all
