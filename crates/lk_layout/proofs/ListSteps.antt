-- One step of a loop over a list.
use Rattle.std.specs.Prelude.{◌≡◌, refl, ℕ, zero, suc, ◌+◌, ◌<◌, List, [], ◌∷◌, ◌++◌, drop, map, length, Some, slice_get}
use Rattle.std.proofs.lemmas.List.{append_assoc}
use Rattle.std.proofs.Common.{sym, ap, ◌∙◌, arith, add-one, drop-cons, get_or}

-- what is at a place, and what is behind it
pub at_item : {A : Type 0} (xs : List A) (i : ℕ) (d : A) → i < length xs → drop i xs ≡ get_or xs i d ∷ drop (i + 1) xs
at_item xs i d within = rw (add-one) (drop-cons xs i d within)

at_suc : {A : Type 0} (xs : List A) (i : ℕ) (x : A) → slice_get xs i ≡ Some x → drop i xs ≡ x ∷ drop (suc i) xs
at_suc [] i x at = absurd (cc)
at_suc (y ∷ ys) zero x at = let same : y ≡ x = cc in ap (λ z. z ∷ ys) same
at_suc (y ∷ ys) (suc i) x at = at_suc ys i x at

pub at_entry : {A : Type 0} (xs : List A) (i : ℕ) (x : A) → slice_get xs i ≡ Some x → drop i xs ≡ x ∷ drop (i + 1) xs
at_entry xs i x at = rw (add-one) (at_suc xs i x at)

-- one more item of a list that is made item by item
pub map_step : {A B : Type 0} (f : A → B) (xs : List A) (i : ℕ) (x : A) (y : B) (made more all : List B) → slice_get xs i ≡ Some x → made ++ map f (drop i xs) ≡ all → more ≡ made ++ y ∷ [] → y ≡ f x → more ++ map f (drop (i + 1) xs) ≡ all
map_step f xs i x y made more all at so pushed is =
    ap (λ zs. zs ++ map f (drop (i + 1) xs)) pushed
    ∙ append_assoc made (y ∷ []) (map f (drop (i + 1) xs))
    ∙ ap (λ z. made ++ z ∷ map f (drop (i + 1) xs)) is
    ∙ ap (λ zs. made ++ map f zs) (sym (at_entry xs i x at))
    ∙ so

-- an item that was read at a place is there
pub read_at : {A : Type 0} (xs : List A) (i : ℕ) (x : A) → i < length xs → x ≡ get_or xs i x → slice_get xs i ≡ Some x
read_at [] i x within is = absurd (omega arith)
read_at (y ∷ ys) zero x within is = ap Some (sym is)
read_at (y ∷ ys) (suc i) x within is = read_at ys i x (omega arith) is
