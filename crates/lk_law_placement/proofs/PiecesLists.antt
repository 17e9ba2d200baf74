-- What holds of all items of a list, at one of them, at its parts and in its order of numbers.
use Rattle.std.specs.Prelude.{◌≡◌, ℕ, zero, suc, Bool, false, List, [], ◌∷◌, ◌++◌, ◌+◌, Some, filter, refl}
use Rattle.std.specs.List.{AllByRecursion, enumerate_from, slice_get}
use Rattle.std.proofs.Common.{arith, subst}

pub all_front : {A : Type 0} (P : A → Type 0) (xs ys : List A) → AllByRecursion P (xs ++ ys) → AllByRecursion P xs
all_front P [] ys all = tt
all_front P (x ∷ xs) ys all = (all.0, all_front P xs ys all.1)

pub all_back : {A : Type 0} (P : A → Type 0) (xs ys : List A) → AllByRecursion P (xs ++ ys) → AllByRecursion P ys
all_back P [] ys all = all
all_back P (x ∷ xs) ys all = all_back P xs ys all.1

-- what holds of all holds of the one between these
pub all_between : {A : Type 0} (P : A → Type 0) (all xs : List A) (x : A) (ys : List A) → all ≡ xs ++ x ∷ ys → AllByRecursion P all → P x
all_between P all xs x ys split holds = let parts = subst (AllByRecursion P) split holds in (all_back P xs (x ∷ ys) parts).0

-- and of those after it
pub all_behind : {A : Type 0} (P : A → Type 0) (all xs : List A) (x : A) (ys : List A) → all ≡ xs ++ x ∷ ys → AllByRecursion P all → AllByRecursion P ys
all_behind P all xs x ys split holds = let parts = subst (AllByRecursion P) split holds in (all_back P xs (x ∷ ys) parts).1

-- an item that is there by its number is one of them
pub all_numbered_one : {A : Type 0} (P : A → Type 0) (xs : List A) (n : ℕ) (x : A) → slice_get xs n ≡ Some x → AllByRecursion P xs → P x
all_numbered_one P [] n x there all = absurd (cc)
all_numbered_one P (y ∷ xs) zero x there all = let same : y ≡ x = cc in subst P same all.0
all_numbered_one P (y ∷ xs) (suc n) x there all = all_numbered_one P xs n x there all.1

-- what holds of each item by its number holds of all numbered ones
all_numbered_from :
    {A : Type 0} (P : ℕ × A → Type 0) (i : ℕ) (xs : List A)
    → ((n : ℕ) (x : A) → slice_get xs n ≡ Some x → P (i + n, x))
    → AllByRecursion P (enumerate_from i xs)
all_numbered_from P i [] here = tt
all_numbered_from P i (x ∷ xs) here = (
  (let first : i + 0 ≡ i = omega arith in rw first at (here 0 x refl)),
  all_numbered_from P (i + 1) xs (λ n y there. let next : i + suc n ≡ i + 1 + n = omega arith in rw next at (here (suc n) y there)),
)

pub all_numbered : {A : Type 0} (P : ℕ × A → Type 0) (xs : List A) → ((n : ℕ) (x : A) → slice_get xs n ≡ Some x → P (n, x)) → AllByRecursion P (enumerate_from 0 xs)
all_numbered P xs here = all_numbered_from P 0 xs (λ n x there. let number : 0 + n ≡ n = omega arith in rw number (here n x there))

-- where no item passes a test, none is let through
pub none_pass : {A : Type 0} (test : A → Bool) (xs : List A) → AllByRecursion (λ x. test x ≡ false) xs → filter test xs ≡ []
none_pass test [] none = refl
none_pass test (x ∷ xs) none = rw none.0 (none_pass test xs none.1)
