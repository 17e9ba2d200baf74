-- Laws of lists and of options that are general: what holds of all items, what is found of them, how many
-- there are.
use Rattle.std.specs.Prelude.{◌≡◌, refl, ℕ, zero, suc, ◌+◌, ◌≤◌, ◌<◌, Bool, true, false, ◌||◌, cond, List, [], ◌∷◌, ◌++◌, drop, filter, filter_map, find, flat_map, fold, length, map, Option, Some, None, option_and_then, option_map, slice_get}
use Rattle.std.specs.List.{AllByRecursion, cons_option, enumerate_from, list_any, range_with_len}
use Rattle.std.proofs.Common.{arith, sym, subst, ap, ◌∙◌}
use Rattle.std.proofs.lemmas.Bool.{or_parts}
use Rattle.std.proofs.lemmas.List.{length-map}

-- ---- what holds of all items

pub all-append : {X : Type 0} (P : X → Type 0) (xs ys : List X) → AllByRecursion P xs → AllByRecursion P ys → AllByRecursion P (xs ++ ys)
all-append P [] ys first second = second
all-append P (x ∷ xs) ys (here, more) second = (here, all-append P xs ys more second)

pub all-both : {X : Type 0} (P Q : X → Type 0) (xs : List X) → AllByRecursion P xs → AllByRecursion Q xs → AllByRecursion (λ x. P x × Q x) xs
all-both P Q [] first second = tt
all-both P Q (x ∷ xs) (here, more) (own, others) = ((here, own), all-both P Q xs more others)

pub all-first : {X : Type 0} (P Q : X → Type 0) (xs : List X) → AllByRecursion (λ x. P x × Q x) xs → AllByRecursion P xs
all-first P Q [] all = tt
all-first P Q (x ∷ xs) (here, more) = (here.0, all-first P Q xs more)

pub all-second : {X : Type 0} (P Q : X → Type 0) (xs : List X) → AllByRecursion (λ x. P x × Q x) xs → AllByRecursion Q xs
all-second P Q [] all = tt
all-second P Q (x ∷ xs) (here, more) = (here.1, all-second P Q xs more)

pub all-imply : {X : Type 0} {P Q : X → Type 0} → ((x : X) → P x → Q x) → (xs : List X) → AllByRecursion P xs → AllByRecursion Q xs
all-imply h [] all = tt
all-imply h (x ∷ xs) (here, more) = (h x here, all-imply h xs more)

pub all-drop : {X : Type 0} (P : X → Type 0) (k : ℕ) (xs : List X) → AllByRecursion P xs → AllByRecursion P (drop k xs)
all-drop P zero xs all = all
all-drop P (suc k) [] all = all
all-drop P (suc k) (x ∷ xs) (here, more) = all-drop P k xs more

pub all-mapped : {X Y : Type 0} (f : X → Y) (P : Y → Type 0) (xs : List X) → AllByRecursion (λ x. P (f x)) xs → AllByRecursion P (map f xs)
all-mapped f P [] all = tt
all-mapped f P (x ∷ xs) (here, more) = (here, all-mapped f P xs more)

pub all-flat : {X Y : Type 0} (P : Y → Type 0) (Q : X → Type 0) (f : X → List Y) → ((x : X) → Q x → AllByRecursion P (f x)) → (xs : List X) → AllByRecursion Q xs → AllByRecursion P (flat_map f xs)
all-flat P Q f each [] all = tt
all-flat P Q f each (x ∷ xs) (here, more) = all-append P (f x) (flat_map f xs) (each x here) (all-flat P Q f each xs more)

pub all-range : {X : Type 0} (P : X → Type 0) (f : ℕ → X) (from n : ℕ) → ((k : ℕ) → P (f k)) → AllByRecursion P (map f (range_with_len from n))
all-range P f from zero each = tt
all-range P f from (suc n) each = (each from, all-range P f (from + 1) n each)

-- what is found of items
pub all-found : {X Y : Type 0} (P : X → Type 0) (Q : Y → Type 0) (h : X → Option Y) (xs : List X) → ((x : X) → P x → (y : Y) → h x ≡ Some y → Q y)
    → AllByRecursion P xs → AllByRecursion Q (filter_map h xs)
all-found P Q h [] each all = tt
all-found {X} {Y} P Q h (x ∷ xs) each (here, more) = go (h x) refl (all-found P Q h xs each more)
  where
    go : (o : Option Y) → h x ≡ o → AllByRecursion Q (filter_map h xs) → AllByRecursion Q (cons_option o (filter_map h xs))
    go None e rest = rest
    go (Some y) e rest = (each x here y e, rest)

-- items with numbers below a bound
pub all-numbered : {X : Type 0} (P : X → Type 0) (n most : ℕ) (xs : List X) → n + length xs ≤ most → AllByRecursion P xs
    → AllByRecursion (λ (row : ℕ × X). (row.0 < most) × P row.1) (enumerate_from n xs)
all-numbered P n most [] few all = tt
all-numbered P n most (x ∷ xs) few (here, more) = ((omega (arith, few), here), all-numbered P (n + 1) most xs (omega (arith, few)) more)

pub all-at : {X : Type 0} (P : X → Type 0) (xs : List X) (k : ℕ) (x : X) → AllByRecursion P xs → slice_get xs k ≡ Some x → P x
all-at P [] k x all e = absurd (cc)
all-at P (y ∷ ys) zero x (here, more) e = let is : y ≡ x = cc in subst P is here
all-at P (y ∷ ys) (suc k) x (here, more) e = all-at P ys k x more e

pub all-placed : {X : Type 0} (P : X → Type 0) (xs : List X) → ((k : ℕ) (x : X) → slice_get xs k ≡ Some x → P x) → AllByRecursion P xs
all-placed P [] each = tt
all-placed P (x ∷ xs) each = (each 0 x refl, all-placed P xs (λ k y e. each (suc k) y e))

pub next-at : {X : Type 0} (P : ℕ → X → Type 0) (n : ℕ) (x : X) (xs : List X) → ((j : ℕ) (y : X) → slice_get (x ∷ xs) j ≡ Some y → P (n + j) y)
    → P n x × ((j : ℕ) (y : X) → slice_get xs j ≡ Some y → P (n + 1 + j) y)
next-at P n x xs each =
    let here : n + 0 ≡ n = omega arith in (
      subst (λ k. P k x) here (each 0 x refl),
      λ j y e. let at : n + suc j ≡ n + 1 + j = omega arith in subst (λ k. P k y) at (each (suc j) y e),
    )

-- ---- items that pass a test

pub find-all : {X : Type 0} (P : X → Type 0) (test : X → Bool) (xs : List X) (x : X) → AllByRecursion P xs → find test xs ≡ Some x → P x
find-all P test [] x all e = absurd (cc)
find-all {X} P test (y ∷ ys) x (here, more) e = go (test y) e (find-all P test ys x more)
  where
    go : (b : Bool) → cond b (Some y) (find test ys) ≡ Some x → (find test ys ≡ Some x → P x) → P x
    go true h later = let is : y ≡ x = cc in subst P is here
    go false h later = later h

pub none-any : {X : Type 0} (test : X → Bool) (xs : List X) → list_any test xs ≡ false → AllByRecursion (λ x. test x ≡ false) xs
none-any test [] none = tt
none-any test (x ∷ xs) none =
    let both = or_parts (test x) (list_any test xs) none in
    (both.0, none-any test xs both.1)

-- an item that passes
pub any-one : {X : Type 0} (P : X → Type 0) (test : X → Bool) (xs : List X) → AllByRecursion P xs → list_any test xs ≡ true → (x : X) × ((test x ≡ true) × P x)
any-one P test [] all there = absurd (cc)
any-one {X} P test (x ∷ xs) (here, more) there = go (test x) refl there (any-one P test xs more)
  where
    go : (b : Bool) → test x ≡ b → (b || list_any test xs) ≡ true → (list_any test xs ≡ true → (y : X) × ((test y ≡ true) × P y)) → (y : X) × ((test y ≡ true) × P y)
    go true e h later = (x, (e, here))
    go false e h later = later h

-- what holds of the items that pass a test
pub unfiltered : {X : Type 0} (P : X → Type 0) (test : X → Bool) (xs : List X) → AllByRecursion P (filter test xs) → AllByRecursion (λ x. test x ≡ true → P x) xs
unfiltered P test [] all = tt
unfiltered {X} P test (x ∷ xs) all = go (test x) refl all (unfiltered P test xs)
  where
    go : (b : Bool) → test x ≡ b → AllByRecursion P (filter test (x ∷ xs)) → (AllByRecursion P (filter test xs) → AllByRecursion (λ y. test y ≡ true → P y) xs)
        → (test x ≡ true → P x) × AllByRecursion (λ y. test y ≡ true → P y) xs
    go true e h later = let own : AllByRecursion P (x ∷ filter test xs) = rw e at h in (λ t. own.0, later own.1)
    go false e h later = let rest : AllByRecursion P (filter test xs) = rw e at h in (λ t. absurd (let no : false ≡ true = sym e ∙ t in cc), later rest)

pub filter-none : {X : Type 0} (test : X → Bool) (xs : List X) → AllByRecursion (λ x. test x ≡ false) xs → filter test xs ≡ []
filter-none test [] all = refl
filter-none test (x ∷ xs) (here, more) = rw here (filter-none test xs more)

pub filter-all : {X : Type 0} (test : X → Bool) (xs : List X) → AllByRecursion (λ x. test x ≡ true) xs → filter test xs ≡ xs
filter-all test [] all = refl
filter-all test (x ∷ xs) (here, more) = rw here (ap (λ l. x ∷ l) (filter-all test xs more))

-- ---- folds, numbers and places

pub fold-keeps : {S X : Type 0} (P : S → Type 0) (Q : X → Type 0) (f : S → X → S) → ((s : S) (x : X) → P s → Q x → P (f s x))
    → (s : S) (xs : List X) → P s → AllByRecursion Q xs → P (fold f s xs)
fold-keeps P Q f step s [] start all = start
fold-keeps P Q f step s (x ∷ xs) start (here, more) = fold-keeps P Q f step (f s x) xs (step s x start here) more

pub enumerate-append : {X : Type 0} (i : ℕ) (xs ys : List X) → enumerate_from i (xs ++ ys) ≡ enumerate_from i xs ++ enumerate_from (i + length xs) ys
enumerate-append i [] ys = let e : i ≡ i + 0 = omega arith in ap (λ n. enumerate_from n ys) e
enumerate-append i (x ∷ xs) ys =
    let e : i + 1 + length xs ≡ i + suc (length xs) = omega arith in
    ap (λ l. (i, x) ∷ l) (enumerate-append (i + 1) xs ys ∙ ap (λ n. enumerate_from (i + 1) xs ++ enumerate_from n ys) e)

pub get-behind : {X : Type 0} (xs ys : List X) (j : ℕ) → slice_get (xs ++ ys) (length xs + j) ≡ slice_get ys j
get-behind [] ys j = let e : 0 + j ≡ j = omega arith in ap (slice_get ys) e
get-behind (x ∷ xs) ys j =
    let e : suc (length xs) + j ≡ suc (length xs + j) = omega arith in
    ap (slice_get (x ∷ xs ++ ys)) e ∙ get-behind xs ys j

-- ---- how many

pub length-drop-most : {X : Type 0} (k : ℕ) (xs : List X) → length (drop k xs) ≤ length xs
length-drop-most zero xs = omega arith
length-drop-most (suc k) [] = omega arith
length-drop-most (suc k) (x ∷ xs) = let more = length-drop-most k xs in omega (arith, more)

pub length-range : (from n : ℕ) → length (range_with_len from n) ≡ n
length-range from zero = refl
length-range from (suc n) = ap suc (length-range (from + 1) n)

pub length-mapped : {X : Type 0} (f : ℕ → X) (from n : ℕ) → length (map f (range_with_len from n)) ≡ n
length-mapped f from n = length-map (range_with_len from n) f ∙ length-range from n

pub length-found : {X Y : Type 0} (h : X → Option Y) (xs : List X) → length (filter_map h xs) ≤ length xs
length-found h [] = omega arith
length-found {X} {Y} h (x ∷ xs) = go (h x) (length-found h xs)
  where
    go : (o : Option Y) → length (filter_map h xs) ≤ length xs → length (cons_option o (filter_map h xs)) ≤ suc (length xs)
    go None rest = omega (arith, rest)
    go (Some y) rest = omega (arith, rest)

pub length-passing : {X : Type 0} (test : X → Bool) (xs : List X) → length (filter test xs) ≤ length xs
length-passing test [] = omega arith
length-passing {X} test (x ∷ xs) = go (test x) refl (length-passing test xs)
  where
    go : (b : Bool) → test x ≡ b → length (filter test xs) ≤ length xs → length (filter test (x ∷ xs)) ≤ suc (length xs)
    go true e rest = rw e (omega (arith, rest))
    go false e rest = rw e (omega (arith, rest))

pub length-enumerated : {X : Type 0} (n : ℕ) (xs : List X) → length (enumerate_from n xs) ≡ length xs
length-enumerated n [] = refl
length-enumerated n (x ∷ xs) = ap suc (length-enumerated (n + 1) xs)

-- ---- options

-- the first of two that is there
pub first-none : {X : Type 0} (first second : Option X) → elim first as (λ _. Option X) [ Some s ↦ Some s | None ↦ second ] ≡ None → (first ≡ None) × (second ≡ None)
first-none None second none = (refl, none)
first-none (Some s) second none = absurd (cc)

-- what a chain of look-ups found
pub and-then : {X Y : Type 0} (o : Option X) (f : X → Option Y) (y : Y) → option_and_then f o ≡ Some y → (x : X) × ((o ≡ Some x) × (f x ≡ Some y))
and-then None f y e = absurd (cc)
and-then (Some x) f y e = (x, (refl, e))

pub found-in-map : {X Y : Type 0} (f : X → Y) (o : Option X) (y : Y) → option_map f o ≡ Some y → (x : X) × ((o ≡ Some x) × (f x ≡ y))
found-in-map f None y e = absurd (cc)
found-in-map f (Some x) y e = (x, (refl, (let is : f x ≡ y = cc in is)))
