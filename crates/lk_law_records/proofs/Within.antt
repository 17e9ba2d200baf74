-- One list lies within another: its items match items of the other in the same order, with others between them.
use Rattle.std.specs.Prelude.{◌≡◌, refl, Bool, true, false, List, [], ◌∷◌, ◌++◌, filter, map}
use Rattle.std.specs.List.{AllByRecursion}
use Rattle.std.proofs.Common.{◌⊎◌, inl, inr}
use mathlib.Core.Path.{subst, ap}

abbrev pub Within : {X Y : Type 0} → (X → Y → Type 0) → List X → List Y → Type 0
Within M [] ys = Unit {0}
Within M (x ∷ xs) [] = ⊥
Within M (x ∷ xs) (y ∷ ys) = (M x y × Within M xs ys) ⊎ Within M (x ∷ xs) ys

-- the same item
abbrev pub Same : {X : Type 0} → X → X → Type 0
Same x y = x ≡ y

pub within-skip : {X Y : Type 0} (M : X → Y → Type 0) (xs : List X) (y : Y) (ys : List Y) → Within M xs ys → Within M xs (y ∷ ys)
within-skip M [] y ys w = tt
within-skip M (x ∷ xs) y ys w = inr w

pub within-behind : {X Y : Type 0} (M : X → Y → Type 0) (xs : List X) (before ys : List Y) → Within M xs ys → Within M xs (before ++ ys)
within-behind M xs [] ys w = w
within-behind M xs (b ∷ before) ys w = within-skip M xs b (before ++ ys) (within-behind M xs before ys w)

pub within-append : {X Y : Type 0} (M : X → Y → Type 0) (us vs : List X) (xs ys : List Y) → Within M us xs → Within M vs ys → Within M (us ++ vs) (xs ++ ys)
within-append M [] vs xs ys first second = within-behind M vs xs ys second
within-append M (u ∷ us) vs [] ys first second = absurd first
within-append M (u ∷ us) vs (x ∷ xs) ys (inl (here, more)) second = inl (here, within-append M us vs xs ys more second)
within-append M (u ∷ us) vs (x ∷ xs) ys (inr later) second = inr (within-append M (u ∷ us) vs xs ys later second)

-- what passes a test lies within the list
pub within-filter : {X : Type 0} (test : X → Bool) (xs : List X) → Within Same (filter test xs) xs
within-filter test [] = tt
within-filter {X} test (x ∷ xs) = go (test x) refl (within-filter test xs)
  where
    go : (b : Bool) → test x ≡ b → Within Same (filter test xs) xs → Within Same (filter test (x ∷ xs)) (x ∷ xs)
    go true e rest = rw e (inl (refl, rest))
    go false e rest = rw e (within-skip Same (filter test xs) x xs rest)

pub within-map : {X Y : Type 0} (f : X → Y) (xs ys : List X) → Within Same xs ys → Within Same (map f xs) (map f ys)
within-map f [] ys w = tt
within-map f (x ∷ xs) [] w = absurd w
within-map f (x ∷ xs) (y ∷ ys) (inl (here, more)) = inl (ap f here, within-map f xs ys more)
within-map f (x ∷ xs) (y ∷ ys) (inr later) = inr (within-map f (x ∷ xs) ys later)

-- one after the other
pub within-through : {X Y : Type 0} (M : X → Y → Type 0) (xs : List X) (ys zs : List Y) → Within M xs ys → Within Same ys zs → Within M xs zs
within-through M [] ys zs first second = tt
within-through M (x ∷ xs) [] zs first second = absurd first
within-through M (x ∷ xs) (y ∷ ys) [] first second = absurd second
within-through M (x ∷ xs) (y ∷ ys) (z ∷ zs) first (inr later) = inr (within-through M (x ∷ xs) (y ∷ ys) zs first later)
within-through M (x ∷ xs) (y ∷ ys) (z ∷ zs) (inl (here, more)) (inl (same, rest)) = inl (subst (M x) same here, within-through M xs ys zs more rest)
within-through M (x ∷ xs) (y ∷ ys) (z ∷ zs) (inr later) (inl (same, rest)) = inr (within-through M (x ∷ xs) ys zs later rest)

-- what each item of the other list gives of the items that match it, all items have
pub within-all : {X Y : Type 0} (M : X → Y → Type 0) (P : X → Type 0) (xs : List X) (ys : List Y) → Within M xs ys → AllByRecursion (λ y. (x : X) → M x y → P x) ys → AllByRecursion P xs
within-all M P [] ys w all = tt
within-all M P (x ∷ xs) [] w all = absurd w
within-all M P (x ∷ xs) (y ∷ ys) (inl (here, more)) (gives, others) = (gives x here, within-all M P xs ys more others)
within-all M P (x ∷ xs) (y ∷ ys) (inr later) (gives, others) = within-all M P (x ∷ xs) ys later others
