-- What holds of each two items of lists that are made of others: joined list by list, filtered, numbered,
-- mapped, zipped.
use Rattle.std.specs.Prelude.{◌≡◌, ℕ, zero, suc, Bool, true, false, List, [], ◌∷◌, ◌+◌, Some, filter, flat_map, map, refl}
use Rattle.std.specs.List.{AllByRecursion, enumerate_from, list_any, slice_get, zip}
use Rattle.std.proofs.Common.{arith, subst}
use Rattle.std.proofs.lemmas.Bool.{both_ways}
use Rattle.lk_model.specs.Lawful.{Pairs}
use Rattle.lk_model.proofs.Rising.{all_filter, all_map}
use Rattle.lk_law_placement.proofs.DistinctLists.{all_always, all_both, all_joined, all_mapped}
use Rattle.lk_law_placement.proofs.PiecesLists.{all_back, all_front}
use Rattle.lk_law_loading.proofs.Greatest.{all_unfiltered}
use Rattle.lk_law_loading.proofs.PairsInOrder.{pairs_joined}

-- ---- each item

-- of lists joined end to end
pub all_flat : {A B : Type 0} (P : B → Type 0) (f : A → List B) (xs : List A) → AllByRecursion (λ x. AllByRecursion P (f x)) xs → AllByRecursion P (flat_map f xs)
all_flat P f [] all = tt
all_flat P f (x ∷ xs) all = all_joined P (f x) (flat_map f xs) all.0 (all_flat P f xs all.1)

pub each_flat : {A B : Type 0} (P : B → Type 0) (f : A → List B) (xs : List A) → AllByRecursion P (flat_map f xs) → AllByRecursion (λ x. AllByRecursion P (f x)) xs
each_flat P f [] all = tt
each_flat P f (x ∷ xs) all = (all_front P (f x) (flat_map f xs) all, each_flat P f xs (all_back P (f x) (flat_map f xs) all))

-- of numbered items
pub all_seconds : {A : Type 0} (P : A → Type 0) (i : ℕ) (xs : List A) → AllByRecursion P xs → AllByRecursion (λ (e : ℕ × A). P e.1) (enumerate_from i xs)
all_seconds P i [] all = tt
all_seconds P i (x ∷ xs) all = (all.0, all_seconds P (i + 1) xs all.1)

numbered_from : {A : Type 0} (P : ℕ × A → Type 0) (i : ℕ) (xs : List A) (n : ℕ) (x : A) → slice_get xs n ≡ Some x → AllByRecursion P (enumerate_from i xs) → P (i + n, x)
numbered_from P i [] n x there all = absurd (cc)
numbered_from P i (y ∷ xs) zero x there all =
    let same : y ≡ x = cc in
    let number : i ≡ i + 0 = omega arith in
    subst (λ (k : ℕ). P (k, x)) number (subst (λ z. P (i, z)) same all.0)
numbered_from P i (y ∷ xs) (suc n) x there all =
    let number : i + 1 + n ≡ i + suc n = omega arith in
    subst (λ (k : ℕ). P (k, x)) number (numbered_from P (i + 1) xs n x there all.1)

-- one of them by its number
pub of_numbered : {A : Type 0} (P : ℕ × A → Type 0) (xs : List A) (n : ℕ) (x : A) → slice_get xs n ≡ Some x → AllByRecursion P (enumerate_from 0 xs) → P (n, x)
of_numbered P xs n x there all = let number : 0 + n ≡ n = omega arith in subst (λ (k : ℕ). P (k, x)) number (numbered_from P 0 xs n x there all)

-- of zipped items
pub all_zipped : {A B : Type 0} (P : B → Type 0) (xs : List A) (ys : List B) → AllByRecursion P ys → AllByRecursion (λ (z : A × B). P z.1) (zip xs ys)
all_zipped P [] ys all = tt
all_zipped P (x ∷ xs) [] all = tt
all_zipped P (x ∷ xs) (y ∷ ys) all = (all.0, all_zipped P xs ys all.1)

pub all_zipped_first : {A B : Type 0} (P : A → Type 0) (xs : List A) (ys : List B) → AllByRecursion P xs → AllByRecursion (λ (z : A × B). P z.0) (zip xs ys)
all_zipped_first P [] ys all = tt
all_zipped_first P (x ∷ xs) [] all = tt
all_zipped_first P (x ∷ xs) (y ∷ ys) all = (all.0, all_zipped_first P xs ys all.1)

-- one that passes a test is there
pub any_found : {A : Type 0} {Q : Type 0} (P : A → Type 0) (p : A → Bool) (xs : List A) → ((x : A) → p x ≡ true → P x → Q) → AllByRecursion P xs → list_any p xs ≡ true → Q
any_found P p [] h all there = absurd (both_ways false refl there)
any_found {A} {Q} P p (x ∷ xs) h all there = go (p x) refl (any_found P p xs h all.1)
  where
    go : (b : Bool) → p x ≡ b → (list_any p xs ≡ true → Q) → Q
    go true e rest = h x e all.0
    go false e rest = rest (rw e at there)

-- ---- each two items

-- what holds of every item of one list and every item of others holds of it and all others
spread :
    {A B : Type 0} (R : B → B → Type 0) (f : A → List B) (bs : List B) (ys : List A)
    → AllByRecursion (λ y. AllByRecursion (λ b. AllByRecursion (R b) (f y)) bs) ys
    → AllByRecursion (λ b. AllByRecursion (R b) (flat_map f ys)) bs
spread R f [] ys all = tt
spread R f (b ∷ bs) ys all = (
  all_flat (R b) f ys (all_map {Q = λ y. AllByRecursion (R b) (f y)} (λ y both. both.0) ys all),
  spread R f bs ys (all_map {Q = λ y. AllByRecursion (λ b. AllByRecursion (R b) (f y)) bs} (λ y both. both.1) ys all),
)

-- of lists joined end to end: within each of them, and between each two
pub pairs_flat :
    {A B : Type 0} (R : B → B → Type 0) (f : A → List B) (xs : List A)
    → AllByRecursion (λ x. Pairs R (f x)) xs
    → Pairs (λ x y. AllByRecursion (λ a. AllByRecursion (R a) (f y)) (f x)) xs
    → Pairs R (flat_map f xs)
pairs_flat R f [] own between = tt
pairs_flat R f (x ∷ xs) own between = pairs_joined R (f x) (flat_map f xs) own.0 (spread R f (f x) xs between.0) (pairs_flat R f xs own.1 between.1)

-- of items that pass a test
pub pairs_unfiltered : {A : Type 0} (R : A → A → Type 0) (p : A → Bool) (xs : List A) → Pairs R (filter p xs) → Pairs (λ a b. p a ≡ true → p b ≡ true → R a b) xs
pairs_unfiltered R p [] pairs = tt
pairs_unfiltered {A} R p (x ∷ xs) pairs = go (p x) refl (pairs_unfiltered R p xs)
  where
    go :
        (b : Bool)
        → p x ≡ b
        → (Pairs R (filter p xs) → Pairs (λ a b. p a ≡ true → p b ≡ true → R a b) xs)
        → Pairs (λ a b. p a ≡ true → p b ≡ true → R a b) (x ∷ xs)
    go true e rest =
        let parts = rw e at pairs in
        (all_map {Q = λ y. p x ≡ true → p y ≡ true → R x y} (λ y h own passes. h passes) xs (all_unfiltered (R x) p xs parts.0), rest parts.1)
    go false e rest = (all_always (λ y own passes. absurd (both_ways (p x) e own)) xs, rest (rw e at pairs))

pub pairs_filtered : {A : Type 0} (R : A → A → Type 0) (p : A → Bool) (xs : List A) → Pairs R xs → Pairs R (filter p xs)
pairs_filtered R p [] pairs = tt
pairs_filtered {A} R p (x ∷ xs) pairs = go (p x) refl (pairs_filtered R p xs pairs.1)
  where
    go : (b : Bool) → p x ≡ b → Pairs R (filter p xs) → Pairs R (filter p (x ∷ xs))
    go true e rest = rw e (all_filter (R x) p xs pairs.0, rest)
    go false e rest = rw e rest

-- what follows of two items and of both
pub pairs_with : {A : Type 0} {P : A → Type 0} {R S : A → A → Type 0} → ((a b : A) → P a → P b → R a b → S a b) → (xs : List A) → AllByRecursion P xs → Pairs R xs → Pairs S xs
pairs_with h [] all pairs = tt
pairs_with h (x ∷ xs) all pairs = (all_both (λ y p r. h x y all.0 p r) xs all.1 pairs.0, pairs_with h xs all.1 pairs.1)

-- of numbered, mapped, zipped items
pub pairs_numbered : {A : Type 0} (R : A → A → Type 0) (i : ℕ) (xs : List A) → Pairs R xs → Pairs (λ (a b : ℕ × A). R a.1 b.1) (enumerate_from i xs)
pairs_numbered R i [] pairs = tt
pairs_numbered R i (x ∷ xs) pairs = (all_seconds (R x) (i + 1) xs pairs.0, pairs_numbered R (i + 1) xs pairs.1)

pub pairs_mapped : {A B : Type 0} (f : A → B) (R : B → B → Type 0) (xs : List A) → Pairs (λ a b. R (f a) (f b)) xs → Pairs R (map f xs)
pairs_mapped f R [] pairs = tt
pairs_mapped f R (x ∷ xs) pairs = (all_mapped f (R (f x)) xs pairs.0, pairs_mapped f R xs pairs.1)

pub pairs_zipped : {A B : Type 0} (R : B → B → Type 0) (xs : List A) (ys : List B) → Pairs R ys → Pairs (λ (a b : A × B). R a.1 b.1) (zip xs ys)
pairs_zipped R [] ys pairs = tt
pairs_zipped R (x ∷ xs) [] pairs = tt
pairs_zipped R (x ∷ xs) (y ∷ ys) pairs = (all_zipped (R y) xs ys pairs.0, pairs_zipped R xs ys pairs.1)
