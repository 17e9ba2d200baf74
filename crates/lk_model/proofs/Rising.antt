-- Spans that rise, each at or above the end of the one before, share nothing.
use Rattle.std.specs.Prelude.{◌≡◌, ℕ, Bool, true, false, IsTrue, List, [], ◌∷◌, ◌++◌, ◌+◌, ◌≤◌, ⊤, filter, fold, map, max, refl}
use Rattle.std.specs.List.{AllByRecursion}
use Rattle.std.proofs.Common.{arith}
use Rattle.std.proofs.lemmas.Bool.Decides.{nat_tests}
use Rattle.lk_model.specs.FullPlace.{greatest}
use Rattle.lk_model.specs.Lawful.{Pairs, share_nothing}

-- each begins at or above the end of the one before, the first at or above `at`
abbrev pub Rising : {A : Type 0} → (A → ℕ) → (A → ℕ) → ℕ → List A → Type 0
Rising start size at [] = ⊤
Rising start size at (x ∷ xs) = (at ≤ start x) × Rising start size (start x + size x) xs

-- what holds of each item, by what it follows from
pub all_map : {A : Type 0} {P Q : A → Type 0} → ((x : A) → P x → Q x) → (xs : List A) → AllByRecursion P xs → AllByRecursion Q xs
all_map h [] all = tt
all_map h (x ∷ xs) all = (h x all.0, all_map h xs all.1)

-- items that pass a test keep what holds of all
pub all_filter : {A : Type 0} (P : A → Type 0) (test : A → Bool) (xs : List A) → AllByRecursion P xs → AllByRecursion P (filter test xs)
all_filter P test [] all = tt
all_filter {A} P test (x ∷ xs) all = go (test x) refl (all_filter P test xs all.1)
  where
    go : (b : Bool) → test x ≡ b → AllByRecursion P (filter test xs) → AllByRecursion P (filter test (x ∷ xs))
    go true e rest = rw e (all.0, rest)
    go false e rest = rw e rest

-- and they pass it
pub all_pass : {A : Type 0} (test : A → Bool) (xs : List A) → AllByRecursion (λ x. test x ≡ true) (filter test xs)
all_pass test [] = tt
all_pass {A} test (x ∷ xs) = go (test x) refl (all_pass test xs)
  where
    go : (b : Bool) → test x ≡ b → AllByRecursion (λ y. test y ≡ true) (filter test xs) → AllByRecursion (λ y. test y ≡ true) (filter test (x ∷ xs))
    go true e rest = rw e (e, rest)
    go false e rest = rw e rest

-- a rise from a place is a rise from below it
pub rising_from_below : {A : Type 0} (start size : A → ℕ) (low at : ℕ) (xs : List A) → low ≤ at → Rising start size at xs → Rising start size low xs
rising_from_below start size low at [] below rising = tt
rising_from_below start size low at (x ∷ xs) below rising = (omega (arith, rising.0), rising.1)

-- all begin at or above the place
pub rising_above : {A : Type 0} (start size : A → ℕ) (at : ℕ) (xs : List A) → Rising start size at xs → AllByRecursion (λ x. at ≤ start x) xs
rising_above start size at [] rising = tt
rising_above start size at (x ∷ xs) rising =
    (rising.0, rising_above start size at xs (rising_from_below start size at (start x + size x) xs (omega (arith, rising.0)) rising.1))

-- one that begins at or above the end of another shares nothing with it
above_apart : (a m b n : ℕ) → a + m ≤ b → IsTrue (share_nothing a m b n)
above_apart a m b n above = grind (arith, nat_tests)

-- they share nothing
pub rising_apart : {A : Type 0} (start size : A → ℕ) (at : ℕ) (xs : List A) → Rising start size at xs → Pairs (λ a b. IsTrue (share_nothing (start a) (size a) (start b) (size b))) xs
rising_apart start size at [] rising = tt
rising_apart start size at (x ∷ xs) rising = (
  all_map (λ y above. above_apart (start x) (size x) (start y) (size y) above) xs (rising_above start size (start x + size x) xs rising.1),
  rising_apart start size (start x + size x) xs rising.1,
)

-- an item before a rise, where the rise goes on from its end if it passes the test
pub rising_filter :
    {A : Type 0} (start size : A → ℕ) (test : A → Bool) (at next : ℕ) (x : A) (xs : List A)
    → at ≤ start x
    → at ≤ next
    → (test x ≡ true → next ≡ start x + size x)
    → Rising start size next (filter test xs)
    → Rising start size at (filter test (x ∷ xs))
rising_filter {A} start size test at next x xs above on ends rising = go (test x) refl
  where
    go : (b : Bool) → test x ≡ b → Rising start size at (filter test (x ∷ xs))
    go true e = rw e (above, rising_from_below start size (start x + size x) next (filter test xs) (omega (arith, ends e)) rising)
    go false e = rw e (rising_from_below start size at next (filter test xs) on rising)

-- a rise that ends at or below a place goes on with one from that place
pub rising_append :
    {A : Type 0} (start size : A → ℕ) (at end : ℕ) (xs ys : List A)
    → at ≤ end
    → AllByRecursion (λ x. start x + size x ≤ end) xs
    → Rising start size at xs
    → Rising start size end ys
    → Rising start size at (xs ++ ys)
rising_append start size at end [] ys below ends first second = rising_from_below start size at end ys below second
rising_append start size at end (x ∷ xs) ys below ends first second =
    (first.0, rising_append start size (start x + size x) end xs ys ends.0 ends.1 first.1 second)

-- the greatest of some numbers and the one that it begins with is not below the latter
fold_above : (m : ℕ) (ns : List ℕ) → m ≤ fold max m ns
fold_above m [] = omega arith
fold_above m (n ∷ ns) = let up = fold_above (max m n) ns in grind (arith, up)

fold_greatest : (m : ℕ) (ns : List ℕ) → AllByRecursion (λ n. n ≤ fold max m ns) ns
fold_greatest m [] = tt
fold_greatest m (n ∷ ns) = (let up = fold_above (max m n) ns in grind (arith, up), fold_greatest (max m n) ns)

-- no number is greater than the greatest
pub below_greatest : (ns : List ℕ) → AllByRecursion (λ n. n ≤ greatest ns) ns
below_greatest ns = fold_greatest 0 ns

-- what holds of the images of items holds of the items by their images
pub all_of_map : {A B : Type 0} (f : A → B) (P : B → Type 0) (xs : List A) → AllByRecursion P (map f xs) → AllByRecursion (λ x. P (f x)) xs
all_of_map f P [] all = tt
all_of_map f P (x ∷ xs) all = (all.0, all_of_map f P xs all.1)
