-- What holds of each two items in the order of a list: of two lists joined, of the images of items, and
-- of items of lower rank.
use Rattle.std.specs.Prelude.{ℕ, List, [], ◌∷◌, ◌++◌, ◌<◌, ◌≤◌, map}
use Rattle.std.specs.List.{AllByRecursion}
use Rattle.std.proofs.Common.{arith}
use Rattle.lk_model.specs.Lawful.{Pairs}
use Rattle.lk_model.proofs.Rising.{all_map, all_of_map}
use Rattle.lk_law_placement.proofs.DistinctLists.{all_both, all_joined}

-- what holds for every value of each item holds of each item for every value
pub all_for : {A B : Type 0} (P : B → A → Type 0) (xs : List A) → ((y : B) → AllByRecursion (P y) xs) → AllByRecursion (λ x. (y : B) → P y x) xs
all_for P [] h = tt
all_for P (x ∷ xs) h = (λ y. (h y).0, all_for P xs (λ y. (h y).1))

-- pairs of two lists, and between them, are those of both joined
pub pairs_joined :
    {A : Type 0} (R : A → A → Type 0) (xs ys : List A)
    → Pairs R xs
    → AllByRecursion (λ x. AllByRecursion (R x) ys) xs
    → Pairs R ys
    → Pairs R (xs ++ ys)
pairs_joined R [] ys first between second = second
pairs_joined R (x ∷ xs) ys first between second =
    (all_joined (R x) xs ys first.0 between.0, pairs_joined R xs ys first.1 between.1 second)

-- what holds of each two items that a fact holds of
pub pairs_of_all : {A : Type 0} (P : A → Type 0) (R : A → A → Type 0) → ((a b : A) → P a → P b → R a b) → (xs : List A) → AllByRecursion P xs → Pairs R xs
pairs_of_all P R h [] all = tt
pairs_of_all P R h (x ∷ xs) all = (all_map (λ y p. h x y all.0 p) xs all.1, pairs_of_all P R h xs all.1)

-- what follows of pairs
pub pairs_map : {A : Type 0} {R S : A → A → Type 0} → ((a b : A) → R a b → S a b) → (xs : List A) → Pairs R xs → Pairs S xs
pairs_map h [] pairs = tt
pairs_map h (x ∷ xs) pairs = (all_map (h x) xs pairs.0, pairs_map h xs pairs.1)

-- pairs of images are pairs of the items
pub pairs_of_map : {A B : Type 0} (f : A → B) (R : B → B → Type 0) (xs : List A) → Pairs R (map f xs) → Pairs (λ a b. R (f a) (f b)) xs
pairs_of_map f R [] pairs = tt
pairs_of_map f R (x ∷ xs) pairs = (all_of_map f (R (f x)) xs pairs.0, pairs_of_map f R xs pairs.1)

-- items of lower rank are before an item, where ranks do not fall
pub lower_before :
    {A : Type 0} (rank : A → ℕ) (R : A → A → Type 0) (xs : List A)
    → Pairs (λ a b. rank a ≤ rank b) xs
    → Pairs R xs
    → AllByRecursion (λ b. AllByRecursion (λ a. rank a < rank b → R a b) xs) xs
lower_before rank R [] ranks pairs = tt
lower_before rank R (x ∷ xs) ranks pairs = (
  (λ less. absurd (omega arith), all_map (λ y up less. absurd (omega arith)) xs ranks.0),
  all_both (λ b holds others. (λ less. holds, others)) xs pairs.0 (lower_before rank R xs ranks.1 pairs.1),
)
