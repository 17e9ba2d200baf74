-- Entries of a table that are put one after another.
use Rattle.std.proofs.Common.{◌≡◌, ℕ, suc, ◌+◌, ◌-◌, ◌<◌, ◌≤◌, zero, List, [], ◌∷◌, ◌++◌, length, drop, get_or, ap, sym, ◌∙◌, arith, add-one, append_assoc, append-nil, drop-cons, Some, slice_get}
use Rattle.std.proofs.lemmas.List.{drop_all}
use Rattle.std.specs.Prelude.{flat_map}
use Rattle.std.specs.List.{enumerate_from, range_with_len}

-- the entry with a number, by the number alone
pub range_step :
    (f : ℕ → List ℕ) (out new whole : List ℕ) (n count : ℕ)
    → n < count
    → new ≡ out ++ f n
    → out ++ flat_map f (range_with_len n (count - n)) ≡ whole
    → new ++ flat_map f (range_with_len (n + 1) (count - (n + 1))) ≡ whole
range_step f out new whole n count below put before =
    let fewer : count - n ≡ suc (count - (n + 1)) = omega arith in
    let rest : List ℕ = flat_map f (range_with_len (n + 1) (count - (n + 1))) in
    ap (λ l. l ++ rest) put
    ∙ append_assoc (out) (f n) rest
    ∙ sym (ap (λ m. out ++ flat_map f (range_with_len n m)) fewer)
    ∙ before

-- by the number and an item, of which the item does not count
pub numbered_step :
    (f : ℕ × ℕ → List ℕ) (g : ℕ → List ℕ) (xs out new whole : List ℕ) (n : ℕ)
    → ((k x : ℕ) → f (k, x) ≡ g k)
    → n < length xs
    → new ≡ out ++ g n
    → out ++ flat_map f (enumerate_from n (drop n xs)) ≡ whole
    → new ++ flat_map f (enumerate_from (n + 1) (drop (n + 1) xs)) ≡ whole
numbered_step f g xs out new whole n same below put before =
    let x : ℕ = get_or xs n 0 in
    let rest : List ℕ = flat_map f (enumerate_from (n + 1) (drop (n + 1) xs)) in
    let next : drop n xs ≡ x ∷ drop (n + 1) xs = drop-cons xs n 0 below ∙ ap (λ m. x ∷ drop m xs) (sym (add-one n)) in
    ap (λ l. l ++ rest) (put ∙ ap (λ l. out ++ l) (sym (same n x)))
    ∙ append_assoc (out) (f (n, x)) rest
    ∙ sym (ap (λ l. out ++ flat_map f (enumerate_from n l)) next)
    ∙ before

-- by the number and the item
pub item_step :
    (f : ℕ × ℕ → List ℕ) (xs out new whole : List ℕ) (n x : ℕ)
    → n < length xs
    → x ≡ get_or xs n 0
    → new ≡ out ++ f (n, x)
    → out ++ flat_map f (enumerate_from n (drop n xs)) ≡ whole
    → new ++ flat_map f (enumerate_from (n + 1) (drop (n + 1) xs)) ≡ whole
item_step f xs out new whole n x below at put before =
    let y : ℕ = get_or xs n 0 in
    let rest : List ℕ = flat_map f (enumerate_from (n + 1) (drop (n + 1) xs)) in
    let next : drop n xs ≡ y ∷ drop (n + 1) xs = drop-cons xs n 0 below ∙ ap (λ m. y ∷ drop m xs) (sym (add-one n)) in
    ap (λ l. l ++ rest) (put ∙ ap (λ z. out ++ f (n, z)) at)
    ∙ append_assoc (out) (f (n, y)) rest
    ∙ sym (ap (λ l. out ++ flat_map f (enumerate_from n l)) next)
    ∙ before

-- by the item alone
pub listed_step :
    {A B : Type 0} (f : A → List B) (d : A) (xs : List A) (out new whole : List B) (n : ℕ) (x : A)
    → n < length xs
    → x ≡ get_or xs n d
    → new ≡ out ++ f x
    → out ++ flat_map f (drop n xs) ≡ whole
    → new ++ flat_map f (drop (n + 1) xs) ≡ whole
listed_step {A} {B} f d xs out new whole n x below at put before =
    let y : A = get_or xs n d in
    let rest : List B = flat_map f (drop (n + 1) xs) in
    let next : drop n xs ≡ y ∷ drop (n + 1) xs = drop-cons xs n d below ∙ ap (λ m. y ∷ drop m xs) (sym (add-one n)) in
    ap (λ l. l ++ rest) (put ∙ ap (λ z. out ++ f z) at)
    ∙ append_assoc out (f y) rest
    ∙ sym (ap (λ l. out ++ flat_map f l) next)
    ∙ before

-- once all are put
pub listed_end :
    {A B : Type 0} (f : A → List B) (xs : List A) (out whole : List B) (n : ℕ)
    → length xs ≤ n
    → out ++ flat_map f (drop n xs) ≡ whole
    → out ≡ whole
listed_end f xs out whole n past before = sym (ap (λ l. out ++ flat_map f l) (drop_all n xs past) ∙ append-nil out) ∙ before

-- by the item that is found at a place
next_found : {A : Type 0} (xs : List A) (n : ℕ) (x : A) → slice_get xs n ≡ Some x → drop n xs ≡ x ∷ drop (suc n) xs
next_found [] n x e = absurd (cc)
next_found (y ∷ ys) zero x e =
    let same : y ≡ x = cc in
    ap (λ z. z ∷ ys) same
next_found (y ∷ ys) (suc n) x e = next_found ys n x e

pub found_step :
    {A : Type 0} (f : A → List ℕ) (xs : List A) (out new whole : List ℕ) (n : ℕ) (x : A)
    → slice_get xs n ≡ Some x
    → new ≡ out ++ f x
    → out ++ flat_map f (drop n xs) ≡ whole
    → new ++ flat_map f (drop (n + 1) xs) ≡ whole
found_step f xs out new whole n x there put before =
    let next = next_found xs n x there in
    ap (λ m. new ++ flat_map f (drop m xs)) (add-one n)
    ∙ ap (λ l. l ++ flat_map f (drop (suc n) xs)) put
    ∙ append_assoc out (f x) (flat_map f (drop (suc n) xs))
    ∙ sym (ap (λ l. out ++ flat_map f l) next)
    ∙ before
