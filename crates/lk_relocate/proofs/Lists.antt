-- Lists of which something holds at every item, and lists put together.
use Rattle.std.proofs.Common.{◌≡◌, refl, sym, ap, subst, ◌∙◌, arith, ℕ, zero, suc, ◌+◌, ◌<◌, ◌≤◌, Bool, true, false, cond, List, [], ◌∷◌, ◌++◌, drop, filter, flat_map, get_or, length, map}
use Rattle.std.proofs.lemmas.List.{append-nil, drop_more, map-append}
use Rattle.std.proofs.lemmas.List.Elements.{filter-append}
use Rattle.std.specs.List.{AllByRecursion}
use Rattle.lk_model.proofs.AddedOnce.{times}

pub all_append : {A : Type 0} (P : A → Type 0) (xs ys : List A) → AllByRecursion P xs → AllByRecursion P ys → AllByRecursion P (xs ++ ys)
all_append P [] ys h k = k
all_append P (x ∷ xs) ys h k = (h.0, all_append P xs ys h.1 k)

pub all_mapped : {A B : Type 0} (f : A → B) (P : B → Type 0) (xs : List A) → AllByRecursion (λ x. P (f x)) xs → AllByRecursion P (map f xs)
all_mapped f P [] h = tt
all_mapped f P (x ∷ xs) h = (h.0, all_mapped f P xs h.1)

pub all_both : {A : Type 0} {P Q R : A → Type 0} → ((x : A) → P x → Q x → R x) → (xs : List A) → AllByRecursion P xs → AllByRecursion Q xs → AllByRecursion R xs
all_both f [] h k = tt
all_both f (x ∷ xs) h k = (f x h.0 k.0, all_both f xs h.1 k.1)

-- the item that a loop is at, and those behind it
pub next_item : {A : Type 0} (xs : List A) (i : ℕ) (x : A) → i < length xs → x ≡ get_or xs i x → drop i xs ≡ x ∷ drop (i + 1) xs
next_item xs i x within is = drop_more xs i x within ∙ ap (λ y. y ∷ drop (i + 1) xs) (sym is)

-- what holds of all items holds of the one that a loop is at
pub all_at : {A : Type 0} (P : A → Type 0) (xs : List A) (i : ℕ) (x : A) → drop i xs ≡ x ∷ drop (i + 1) xs → AllByRecursion P xs → P x
all_at {A} P xs i x e all = (first (x ∷ drop (i + 1) xs) e (dropped i xs all)).0
  where
    dropped : (n : ℕ) (ys : List A) → AllByRecursion P ys → AllByRecursion P (drop n ys)
    dropped zero ys h = h
    dropped (suc n) [] h = tt
    dropped (suc n) (y ∷ ys) h = dropped n ys h.1

    first : (ys : List A) → drop i xs ≡ ys → AllByRecursion P (drop i xs) → AllByRecursion P ys
    first ys same h = subst (AllByRecursion P) same h

-- a filter of parts put together
pub filter-flat_map : {A B : Type 0} (p : B → Bool) (f : A → List B) (xs : List A) → filter p (flat_map f xs) ≡ flat_map (λ x. filter p (f x)) xs
filter-flat_map p f [] = refl
filter-flat_map p f (x ∷ xs) = filter-append p (f x) (flat_map f xs) ∙ ap (λ l. filter p (f x) ++ l) (filter-flat_map p f xs)

pub map-flat_map : {A B C : Type 0} (g : B → C) (f : A → List B) (xs : List A) → map g (flat_map f xs) ≡ flat_map (λ x. map g (f x)) xs
map-flat_map g f [] = refl
map-flat_map g f (x ∷ xs) = map-append g (f x) (flat_map f xs) ∙ ap (λ l. map g (f x) ++ l) (map-flat_map g f xs)

pub flat_map-alike : {A B : Type 0} (f g : A → List B) (xs : List A) → AllByRecursion (λ x. f x ≡ g x) xs → flat_map f xs ≡ flat_map g xs
flat_map-alike f g [] h = refl
flat_map-alike f g (x ∷ xs) h = λ i. h.0 i ++ flat_map-alike f g xs h.1 i

pub flat_map-same : {A B : Type 0} (f g : A → List B) → ((x : A) → f x ≡ g x) → (xs : List A) → flat_map f xs ≡ flat_map g xs
flat_map-same f g h [] = refl
flat_map-same f g h (x ∷ xs) = λ i. h x i ++ flat_map-same f g h xs i

-- a test that passes all items of a list or none
pub filter_map_whole : {A B : Type 0} (p : B → Bool) (f : A → B) (b : Bool) → ((x : A) → p (f x) ≡ b) → (xs : List A) → filter p (map f xs) ≡ cond b (map f xs) []
filter_map_whole p f true h [] = refl
filter_map_whole p f false h [] = refl
filter_map_whole p f true h (x ∷ xs) = ap (λ c. cond c (f x ∷ filter p (map f xs)) (filter p (map f xs))) (h x) ∙ ap (λ l. f x ∷ l) (filter_map_whole p f true h xs)
filter_map_whole p f false h (x ∷ xs) = ap (λ c. cond c (f x ∷ filter p (map f xs)) (filter p (map f xs))) (h x) ∙ filter_map_whole p f false h xs

-- ---- an item that alone passes a test

none_of : {A B : Type 0} (p : A → Bool) (g : A → List B) (xs : List A) → times p xs ≡ 0 → flat_map (λ y. cond (p y) (g y) []) xs ≡ []
none_of p g [] h = refl
none_of {A} {B} p g (x ∷ xs) h = by (p x) h (none_of p g xs)
  where
    by : (b : Bool) → cond b 1 0 + times p xs ≡ 0 → (times p xs ≡ 0 → flat_map (λ y. cond (p y) (g y) []) xs ≡ []) → cond b (g x) [] ++ flat_map (λ y. cond (p y) (g y) []) xs ≡ []
    by true e later = absurd (omega arith)
    by false e later = later (omega arith)

-- an item of a list by itself, where it alone passes a test
abbrev pub IsAlone : {A B : Type 0} → (A → List B) → List A → A → Type 0
IsAlone {A} g xs k = (p : A → Bool) → p k ≡ true → (1 ≤ times p xs) × (times p xs ≤ 1 → flat_map (λ y. cond (p y) (g y) []) xs ≡ g k)

first_alone : {A B : Type 0} (g : A → List B) (x : A) (xs : List A) → IsAlone g (x ∷ xs) x
first_alone {A} {B} g x xs = λ p is. by p (p x) is
  where
    by : (p : A → Bool) (b : Bool) → b ≡ true → (1 ≤ cond b 1 0 + times p xs) × (cond b 1 0 + times p xs ≤ 1 → cond b (g x) [] ++ flat_map (λ y. cond (p y) (g y) []) xs ≡ g x)
    by p true is = (omega arith, λ most. ap (λ l. g x ++ l) (none_of p g xs (omega arith)) ∙ append-nil (g x))
    by p false is = absurd (cc)

later_alone : {A B : Type 0} (g : A → List B) (x : A) (xs : List A) (k : A) → IsAlone g xs k → IsAlone g (x ∷ xs) k
later_alone {A} {B} g x xs k alone = λ p is. let h = alone p is in by p (p x) h.0 h.1
  where
    by : (p : A → Bool) (b : Bool) → 1 ≤ times p xs → (times p xs ≤ 1 → flat_map (λ y. cond (p y) (g y) []) xs ≡ g k)
        → (1 ≤ cond b 1 0 + times p xs) × (cond b 1 0 + times p xs ≤ 1 → cond b (g x) [] ++ flat_map (λ y. cond (p y) (g y) []) xs ≡ g k)
    by p true some rest = (omega arith, λ most. absurd (omega arith))
    by p false some rest = (omega arith, λ most. rest (omega arith))

pub all_alone : {A B : Type 0} (g : A → List B) (xs : List A) → AllByRecursion (IsAlone g xs) xs
all_alone g [] = tt
all_alone {A} {B} g (x ∷ xs) = (first_alone g x xs, go xs (all_alone g xs))
  where
    go : (ys : List A) → AllByRecursion (IsAlone g xs) ys → AllByRecursion (IsAlone g (x ∷ xs)) ys
    go [] h = tt
    go (y ∷ ys) h = (later_alone g x xs y h.0, go ys h.1)
