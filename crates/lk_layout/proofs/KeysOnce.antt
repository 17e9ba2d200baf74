-- Lists of distinct keys: the item at the place of a key.
use Rattle.std.specs.Prelude.{◌≡◌, refl, ℕ, zero, suc, ◌+◌, Bool, true, false, cond, not, ◌||◌, List, [], ◌∷◌, ◌++◌, fold, length, map, Some, slice_get, slice_set}
use Rattle.std.specs.List.{AllByRecursion, IsDistinct, list_any, position_or_len}
use Rattle.std.proofs.Common.{sym, ap, ◌∙◌, arith, get_or}
use Rattle.std.proofs.lemmas.List.Folds.{list_any-append}
use Rattle.std.proofs.lemmas.Map.Keys.{IsDistinct-push}
use Rattle.lk_model.specs.declared.layouts.SectionKey.{SectionKey}
use Rattle.lk_model.specs.SectionKeys.{same_key}
use Rattle.lk_model.specs.SectionOrder.{each_once}
use Rattle.lk_model.proofs.KeysFound.{same_key_self, same_key_reports}
use Rattle.lk_layout.specs.Equal.{same_key_equiv}
use Rattle.lk_resolve.proofs.ListSets.{any-distinct}

-- the place of a key
abbrev pub place_in : List SectionKey → SectionKey → ℕ
place_in keys key = position_or_len (same_key key) keys

-- whether a key is among keys
abbrev pub is_among : SectionKey → List SectionKey → Bool
is_among key keys = list_any (same_key key) keys

place_here : (key k : SectionKey) (keys : List SectionKey) → same_key key k ≡ true → place_in (k ∷ keys) key ≡ 0
place_here key k keys e = ap (λ b. cond (not b) (1 + place_in keys key) 0) e

place_later : (key k : SectionKey) (keys : List SectionKey) → same_key key k ≡ false → place_in (k ∷ keys) key ≡ suc (place_in keys key)
place_later key k keys e = let one : 1 + place_in keys key ≡ suc (place_in keys key) = omega arith in ap (λ b. cond (not b) (1 + place_in keys key) 0) e ∙ one

-- a key that is among others is before what follows them
pub place_first : (key : SectionKey) (xs ys : List SectionKey) → is_among key xs ≡ true → place_in (xs ++ ys) key ≡ place_in xs key
place_first key [] ys any = absurd (cc)
place_first key (x ∷ xs) ys any = go (same_key key x) refl any (place_first key xs ys)
  where
    go : (b : Bool) → same_key key x ≡ b → (b || is_among key xs) ≡ true → (is_among key xs ≡ true → place_in (xs ++ ys) key ≡ place_in xs key) → cond (not b) (1 + place_in (xs ++ ys) key) 0 ≡ cond (not b) (1 + place_in xs key) 0
    go true e a rest = refl
    go false e a rest = ap (λ n. 1 + n) (rest a)

pub place_none : (key : SectionKey) (xs : List SectionKey) → is_among key xs ≡ false → place_in xs key ≡ length xs
place_none key [] none = refl
place_none key (x ∷ xs) none = go (same_key key x) refl none (place_none key xs)
  where
    go : (b : Bool) → same_key key x ≡ b → (b || is_among key xs) ≡ false → (is_among key xs ≡ false → place_in xs key ≡ length xs) → cond (not b) (1 + place_in xs key) 0 ≡ suc (length xs)
    go true e a rest = absurd (cc)
    go false e a rest = let more = rest a in omega (arith, more)

pub place_last : (key : SectionKey) (xs : List SectionKey) → is_among key xs ≡ false → place_in (xs ++ key ∷ []) key ≡ length xs
place_last key [] none = place_here key key [] (same_key_self key)
place_last key (x ∷ xs) none = go (same_key key x) refl none (place_last key xs)
  where
    go : (b : Bool) → same_key key x ≡ b → (b || is_among key xs) ≡ false → (is_among key xs ≡ false → place_in (xs ++ key ∷ []) key ≡ length xs) → cond (not b) (1 + place_in (xs ++ key ∷ []) key) 0 ≡ suc (length xs)
    go true e a rest = absurd (cc)
    go false e a rest = let more = rest a in omega (arith, more)

-- ---- keys without repeats

-- they are among each other where they were before, and differ
pub once_among : (key : SectionKey) (keys : List SectionKey) → is_among key (each_once keys) ≡ is_among key keys
once_among key keys = any-distinct same_key same_key_equiv key keys

once_from : (seen keys : List SectionKey) → IsDistinct same_key seen → IsDistinct same_key (fold (λ seen key. cond (is_among key seen) seen (seen ++ key ∷ [])) seen keys)
once_from seen [] h = h
once_from seen (key ∷ keys) h = once_from (cond (is_among key seen) seen (seen ++ key ∷ [])) keys (by (is_among key seen) refl)
  where
    by : (b : Bool) → is_among key seen ≡ b → IsDistinct same_key (cond b seen (seen ++ key ∷ []))
    by true any = h
    by false any = IsDistinct-push same_key_equiv seen key h any

none_differ : IsDistinct same_key []
unfolding IsDistinct
none_differ = tt

pub once_differ : (keys : List SectionKey) → IsDistinct same_key (each_once keys)
once_differ keys = once_from [] keys none_differ

-- the image of the key at its place
pub at_key : {X : Type 0} (f : SectionKey → X) (keys : List SectionKey) (key : SectionKey) → is_among key keys ≡ true → slice_get (map f keys) (place_in keys key) ≡ Some (f key)
at_key f [] key any = absurd (cc)
at_key {X} f (k ∷ keys) key any = go (same_key key k) refl any (at_key f keys key)
  where
    go : (b : Bool) → same_key key k ≡ b → (b || is_among key keys) ≡ true → (is_among key keys ≡ true → slice_get (map f keys) (place_in keys key) ≡ Some (f key)) → slice_get (map f (k ∷ keys)) (place_in (k ∷ keys) key) ≡ Some (f key)
    go true e a rest = ap (slice_get (map f (k ∷ keys))) (place_here key k keys e) ∙ ap (λ x. Some (f x)) (sym (same_key_reports key k e))
    go false e a rest = ap (slice_get (map f (k ∷ keys))) (place_later key k keys e) ∙ rest a

-- keys that differ from one
others_apart : (key k : SectionKey) (keys : List SectionKey) → same_key key k ≡ true → AllByRecursion (λ y. same_key k y ≡ false) keys → AllByRecursion (λ y. same_key key y ≡ false) keys
others_apart key k [] same h = tt
others_apart key k (y ∷ ys) same h = (same_key_equiv.congr key k y same ∙ h.0, others_apart key k ys same h.1)

others_stay : {X : Type 0} (f g : SectionKey → X) (key : SectionKey) (keys : List SectionKey) → ((k : SectionKey) → same_key key k ≡ false → f k ≡ g k) → AllByRecursion (λ y. same_key key y ≡ false) keys → map f keys ≡ map g keys
others_stay f g key [] stays h = refl
others_stay f g key (y ∷ ys) stays h = λ i. stays y h.0 i ∷ others_stay f g key ys stays h.1 i

-- the images of the keys, under a map that changes at one key alone
pub change_key : {X : Type 0} (f g : SectionKey → X) (keys : List SectionKey) (key : SectionKey) → IsDistinct same_key keys → is_among key keys ≡ true → ((k : SectionKey) → same_key key k ≡ false → f k ≡ g k) → slice_set (map f keys) (place_in keys key) (g key) ≡ map g keys
unfolding IsDistinct
change_key f g [] key differ any stays = absurd (cc)
change_key {X} f g (k ∷ keys) key differ any stays = go (same_key key k) refl any (change_key f g keys key differ.1)
  where
    go : (b : Bool) → same_key key k ≡ b → (b || is_among key keys) ≡ true → (is_among key keys ≡ true → ((y : SectionKey) → same_key key y ≡ false → f y ≡ g y) → slice_set (map f keys) (place_in keys key) (g key) ≡ map g keys) → slice_set (map f (k ∷ keys)) (place_in (k ∷ keys) key) (g key) ≡ map g (k ∷ keys)
    go true e a rest =
        let own : g key ≡ g k = ap g (same_key_reports key k e) in
        let others : map f keys ≡ map g keys = others_stay f g key keys stays (others_apart key k keys e differ.0) in
        ap (λ n. slice_set (map f (k ∷ keys)) n (g key)) (place_here key k keys e) ∙ (λ i. own i ∷ others i)
    go false e a rest =
        let first : f k ≡ g k = stays k e in
        let later = rest a stays in
        ap (λ n. slice_set (map f (k ∷ keys)) n (g key)) (place_later key k keys e) ∙ (λ i. first i ∷ later i)
