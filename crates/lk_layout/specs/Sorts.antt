-- This project's own: lists that rise by a key.
use Rattle.std.specs.Prelude.{◌≡◌, ℕ, ◌≤◌, ◌==◌, Bool, List, [], ◌∷◌, filter}

-- no item has a key below this one
abbrev pub AtLeast : {A : Type 0} → (A → ℕ) → ℕ → List A → Type 0
AtLeast key least [] = Unit {0}
AtLeast key least (x ∷ xs) = (least ≤ key x) × AtLeast key least xs

-- each item has at least the key of those before it
abbrev pub Rises : {A : Type 0} → (A → ℕ) → List A → Type 0
Rises key [] = Unit {0}
Rises key (x ∷ xs) = AtLeast key (key x) xs × Rises key xs

-- whether an item has the key
abbrev pub has_key : {A : Type 0} → (A → ℕ) → ℕ → A → Bool
has_key key k x = key x == k

-- a list is another one by rising key, where items of one key keep their order
pub record IsSortOf {A : Type 0} (key : A → ℕ) (xs ys : List A) : Type 0 where
  pub rises : Rises key ys
  pub stays : (k : ℕ) → filter (has_key key k) ys ≡ filter (has_key key k) xs
