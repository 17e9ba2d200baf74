-- A list whose items are in it once has the items of the list that it was made of; and tests of whole
-- lists.
use Rattle.std.proofs.Common.{◌≡◌, refl, sym, ap, ◌∙◌, Bool, true, false, cond, ◌||◌, List, [], ◌∷◌, ◌++◌, fold}
use Rattle.std.proofs.lemmas.List.Folds.{list_any-append}
use Rattle.std.specs.Cmp.{IsEquivalence}
use Rattle.std.specs.List.{list_any}
use Rattle.lk_model.specs.Numbered.{distinct, with_new}

pub or_true : (b : Bool) → (b || true) ≡ true
or_true true = refl
or_true false = refl

pub or_false : (b : Bool) → (b || false) ≡ b
or_false true = refl
or_false false = refl

pub or_assoc : (a b c : Bool) → ((a || b) || c) ≡ (a || (b || c))
or_assoc true b c = refl
or_assoc false b c = refl

module _ {A : Type 0} (same : A → A → Bool) (laws : IsEquivalence same) where
  pub same_any : (x y : A) (xs : List A) → same x y ≡ true → list_any (same x) xs ≡ list_any (same y) xs
  same_any x y [] h = refl
  same_any x y (z ∷ zs) h = λ i. laws.congr x y z h i || same_any x y zs h i

  any-new : (x y : A) (seen : List A) → list_any (same x) (with_new same seen y) ≡ (list_any (same x) seen || same x y)
  any-new x y seen = by (list_any (same y) seen) (same x y) refl refl
    where
      by : (has is : Bool) → list_any (same y) seen ≡ has → same x y ≡ is → list_any (same x) (cond has seen (seen ++ y ∷ [])) ≡ (list_any (same x) seen || is)
      by true true h e = (same_any x y seen e ∙ h) ∙ sym (or_true (list_any (same x) seen))
      by true false h e = sym (or_false (list_any (same x) seen))
      by false is h e = list_any-append (same x) seen (y ∷ []) ∙ ap (λ b. list_any (same x) seen || b) (or_false (same x y) ∙ e)

  any-fold : (x : A) (seen ys : List A) → list_any (same x) (fold (with_new same) seen ys) ≡ (list_any (same x) seen || list_any (same x) ys)
  any-fold x seen [] = sym (or_false (list_any (same x) seen))
  any-fold x seen (y ∷ ys) =
      any-fold x (with_new same seen y) ys ∙ ap (λ b. b || list_any (same x) ys) (any-new x y seen) ∙ or_assoc (list_any (same x) seen) (same x y) (list_any (same x) ys)

  pub any-distinct : (x : A) (xs : List A) → list_any (same x) (distinct same xs) ≡ list_any (same x) xs
  any-distinct x xs = any-fold x [] xs

-- tests that agree at each item agree at the list
pub any-alike : {A : Type 0} (p q : A → Bool) → ((x : A) → p x ≡ q x) → (xs : List A) → list_any p xs ≡ list_any q xs
any-alike p q h [] = refl
any-alike p q h (x ∷ xs) = λ i. h x i || any-alike p q h xs i

or_swap : (a b c d : Bool) → ((a || b) || (c || d)) ≡ ((a || c) || (b || d))
or_swap true b c d = refl
or_swap false true true d = refl
or_swap false true false d = refl
or_swap false false c d = refl

-- some item passes one of two tests where one passes the one or one passes the other
pub any-or : {A : Type 0} (p q : A → Bool) (xs : List A) → list_any (λ x. p x || q x) xs ≡ (list_any p xs || list_any q xs)
any-or p q [] = refl
any-or p q (x ∷ xs) =
    ap (λ b. (p x || q x) || b) (any-or p q xs) ∙ or_swap (p x) (q x) (list_any p xs) (list_any q xs)
