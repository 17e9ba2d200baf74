-- Lists without repeats: how they are made, joined and counted.
use Rattle.std.specs.Prelude.{◌≡◌, ℕ, ◌+◌, Bool, true, false, cond, List, [], ◌∷◌, ◌++◌, fold, filter, map, count_by, refl}
use Rattle.std.specs.List.{AllByRecursion, IsDistinct, list_any, list_all}
use Rattle.std.proofs.Common.{ap, add-zero, ◌∙◌}
use Rattle.std.proofs.lemmas.Bool.{and_from, or_from, or_parts, false≢true}
use Rattle.lk_model.specs.Numbered.{distinct, with_new}
use Rattle.lk_model.proofs.Rising.{all_map, all_filter}

-- what no item of a list passes, each item fails
pub none_passes : {A : Type 0} (p : A → Bool) (xs : List A) → list_any p xs ≡ false → AllByRecursion (λ x. p x ≡ false) xs
none_passes p [] none = tt
none_passes p (x ∷ xs) none =
    let parts = or_parts (p x) (list_any p xs) none in
    (parts.0, none_passes p xs parts.1)

-- and what each item fails, none passes
pub none_of_all : {A : Type 0} (p : A → Bool) (xs : List A) → AllByRecursion (λ x. p x ≡ false) xs → list_any p xs ≡ false
none_of_all p [] fails = refl
none_of_all p (x ∷ xs) fails = or_from (p x) (list_any p xs) fails.0 (none_of_all p xs fails.1)

-- what each item passes, all pass
pub all_of_each : {A : Type 0} (p : A → Bool) (xs : List A) → AllByRecursion (λ x. p x ≡ true) xs → list_all p xs ≡ true
all_of_each p [] passes = refl
all_of_each p (x ∷ xs) passes = and_from (p x) (list_all p xs) passes.0 (all_of_each p xs passes.1)

-- what holds of two lists holds of both joined
pub all_joined : {A : Type 0} (P : A → Type 0) (xs ys : List A) → AllByRecursion P xs → AllByRecursion P ys → AllByRecursion P (xs ++ ys)
all_joined P [] ys first second = second
all_joined P (x ∷ xs) ys first second = (first.0, all_joined P xs ys first.1 second)

-- two facts of each item, from both of which a third follows
pub all_both : {A : Type 0} {P Q R : A → Type 0} → ((x : A) → P x → Q x → R x) → (xs : List A) → AllByRecursion P xs → AllByRecursion Q xs → AllByRecursion R xs
all_both h [] first second = tt
all_both h (x ∷ xs) first second = (h x first.0 second.0, all_both h xs first.1 second.1)

-- what always holds holds of each item
pub all_always : {A : Type 0} {P : A → Type 0} → ((x : A) → P x) → (xs : List A) → AllByRecursion P xs
all_always h [] = tt
all_always h (x ∷ xs) = (h x, all_always h xs)

-- what holds of the images of items holds of all images
pub all_mapped : {A B : Type 0} (f : A → B) (P : B → Type 0) (xs : List A) → AllByRecursion (λ x. P (f x)) xs → AllByRecursion P (map f xs)
all_mapped f P [] all = tt
all_mapped f P (x ∷ xs) all = (all.0, all_mapped f P xs all.1)

-- two lists without repeats that share no item have none when they are joined
pub distinct_joined :
    {A : Type 0} (same : A → A → Bool) (xs ys : List A)
    → IsDistinct same xs
    → IsDistinct same ys
    → AllByRecursion (λ x. list_any (same x) ys ≡ false) xs
    → IsDistinct same (xs ++ ys)
unfolding IsDistinct
distinct_joined same [] ys first second apart = second
distinct_joined same (x ∷ xs) ys first second apart = (
  all_joined (λ y. same x y ≡ false) xs ys first.0 (none_passes (same x) ys apart.0),
  distinct_joined same xs ys first.1 second apart.1,
)

distinct_where : {A : Type 0} (same : A → A → Bool) (b : Bool) (x : A) (xs : List A) → AllByRecursion (λ y. same x y ≡ false) xs → IsDistinct same xs → IsDistinct same (cond b (x ∷ xs) xs)
unfolding IsDistinct
distinct_where same true x xs apart once = (apart, once)
distinct_where same false x xs apart once = once

-- nor have the items that pass a test
pub distinct_filtered : {A : Type 0} (same : A → A → Bool) (p : A → Bool) (xs : List A) → IsDistinct same xs → IsDistinct same (filter p xs)
unfolding IsDistinct
distinct_filtered same p [] once = tt
distinct_filtered same p (x ∷ xs) once =
    distinct_where same (p x) x (filter p xs) (all_filter (λ y. same x y ≡ false) p xs once.0) (distinct_filtered same p xs once.1)

-- a list in which a test finds no repeats
abbrev pub are_distinct : {A : Type 0} → (A → A → Bool) → List A → Bool
are_distinct same [] = true
are_distinct same (x ∷ xs) = cond (list_any (same x) xs) false (are_distinct same xs)

pub distinct_tested : {A : Type 0} (same : A → A → Bool) (xs : List A) → are_distinct same xs ≡ true → IsDistinct same xs
unfolding IsDistinct
distinct_tested same [] tested = tt
distinct_tested {A} same (x ∷ xs) tested = go (list_any (same x) xs) refl (distinct_tested same xs)
  where
    go : (b : Bool) → list_any (same x) xs ≡ b → (are_distinct same xs ≡ true → IsDistinct same xs) → AllByRecursion (λ y. same x y ≡ false) xs × IsDistinct same xs
    go true e rest = absurd (false≢true (rw e at tested))
    go false e rest = (none_passes (same x) xs e, rest (rw e at tested))

-- one more item that the list does not have yet makes no repeat
pushed_distinct :
    {A : Type 0} (same : A → A → Bool) → ((x y : A) → same x y ≡ false → same y x ≡ false)
    → (seen : List A) (x : A)
    → IsDistinct same seen
    → list_any (same x) seen ≡ false
    → IsDistinct same (seen ++ x ∷ [])
unfolding IsDistinct
pushed_distinct same back seen x once new =
    distinct_joined same seen (x ∷ []) once (tt, tt)
    (all_map (λ y apart. or_from (same y x) false (back x y apart) refl) seen (none_passes (same x) seen new))

new_distinct :
    {A : Type 0} (same : A → A → Bool) → ((x y : A) → same x y ≡ false → same y x ≡ false)
    → (seen : List A) (x : A)
    → IsDistinct same seen
    → IsDistinct same (with_new same seen x)
new_distinct {A} same back seen x once = go (list_any (same x) seen) refl
  where
    go : (b : Bool) → list_any (same x) seen ≡ b → IsDistinct same (with_new same seen x)
    go true e = rw e once
    go false e = rw e (pushed_distinct same back seen x once e)

fold_distinct :
    {A : Type 0} (same : A → A → Bool) → ((x y : A) → same x y ≡ false → same y x ≡ false)
    → (seen xs : List A)
    → IsDistinct same seen
    → IsDistinct same (fold (with_new same) seen xs)
fold_distinct same back seen [] once = once
fold_distinct same back seen (x ∷ xs) once = fold_distinct same back (with_new same seen x) xs (new_distinct same back seen x once)

-- a list each of whose items was taken once has no repeats
pub distinct_has_none : {A : Type 0} (same : A → A → Bool) → ((x y : A) → same x y ≡ false → same y x ≡ false) → (xs : List A) → IsDistinct same (distinct same xs)
unfolding IsDistinct
distinct_has_none same back xs = fold_distinct same back [] xs tt

-- what holds of all items holds of each that is taken once
fold_keeps : {A : Type 0} (P : A → Type 0) (same : A → A → Bool) (seen xs : List A) → AllByRecursion P seen → AllByRecursion P xs → AllByRecursion P (fold (with_new same) seen xs)
fold_keeps P same seen [] before all = before
fold_keeps {A} P same seen (x ∷ xs) before all = fold_keeps P same (with_new same seen x) xs (go (list_any (same x) seen) refl) all.1
  where
    go : (b : Bool) → list_any (same x) seen ≡ b → AllByRecursion P (with_new same seen x)
    go true e = rw e before
    go false e = rw e (all_joined P seen (x ∷ []) before (all.0, tt))

pub distinct_keeps : {A : Type 0} (P : A → Type 0) (same : A → A → Bool) (xs : List A) → AllByRecursion P xs → AllByRecursion P (distinct same xs)
distinct_keeps P same xs all = fold_keeps P same [] xs tt all

-- what no item passes, none is counted for
counted_none : {A : Type 0} (p : A → Bool) (n : ℕ) (xs : List A) → AllByRecursion (λ x. p x ≡ false) xs → fold (λ (a : ℕ) x. a + cond (p x) 1 0) n xs ≡ n
counted_none p n [] fails = refl
counted_none {A} p n (x ∷ xs) fails =
    let here : n + cond (p x) 1 0 ≡ n = ap (λ (b : Bool). n + cond b 1 0) fails.0 ∙ add-zero n in
    ap (λ (a : ℕ). fold (λ (a : ℕ) y. a + cond (p y) 1 0) a xs) here ∙ counted_none p n xs fails.1

-- in a list without repeats each item counts once
pub counts_once :
    {A : Type 0} (same test : A → A → Bool)
    → ((x : A) → test x x ≡ true)
    → ((x y : A) → same x y ≡ false → (test x y ≡ false) × (test y x ≡ false))
    → (xs : List A)
    → IsDistinct same xs
    → AllByRecursion (λ x. count_by (test x) xs ≡ 1) xs
unfolding IsDistinct
counts_once same test self apart [] once = tt
counts_once {A} same test self apart (x ∷ xs) once = (
  ap (λ (b : Bool). fold (λ (a : ℕ) y. a + cond (test x y) 1 0) (0 + cond b 1 0) xs) (self x)
      ∙ counted_none (test x) 1 xs (all_map (λ y e. (apart x y e).0) xs once.0),
  all_both
      (λ y e rest. ap (λ (b : Bool). fold (λ (a : ℕ) z. a + cond (test y z) 1 0) (0 + cond b 1 0) xs) (apart x y e).1 ∙ rest)
      xs once.0 (counts_once same test self apart xs once.1),
)
