-- A stable sort is the only list that rises and keeps the order of items of one key.
use Rattle.std.specs.Prelude.{◌≡◌, refl, ℕ, zero, suc, ◌+◌, ◌<◌, ◌≤◌, ◌==◌, Bool, true, false, cond, List, [], ◌∷◌, ◌++◌, filter, length, slice_index_or}
use Rattle.std.specs.List.Sorted.{ties, IsNonDecreasingBy, IsStableByKey}
use Rattle.std.specs.Ordering.{is_lt, nat_cmp}
use Rattle.std.proofs.Common.{sym, ap, ◌∙◌, arith, suc-le-suc, zero-le}
use Rattle.std.proofs.lemmas.Bool.Decides.{nat_tests}
use Rattle.lk_layout.specs.Sorts.{AtLeast, Rises, has_key, IsSortOf}

pub is_same : (a b : ℕ) → a ≡ b → (a == b) ≡ true
is_same a b e = grind (arith, nat_tests, e)

pub is_other : (a b : ℕ) → (a ≡ b → ⊥) → (a == b) ≡ false
is_other a b n = grind (arith, nat_tests, n)

pub reports : (a b : ℕ) → (a == b) ≡ true → a ≡ b
reports a b e = grind (arith, nat_tests)

pub apart : (a b : ℕ) → (a == b) ≡ false → a ≡ b → ⊥
apart a b e same = grind (arith, nat_tests)

ties_are : (m n : ℕ) → ties (λ x y. is_lt (nat_cmp x y)) m n ≡ (n == m)
ties_are m n = grind (arith, nat_tests)

module _ {A : Type 0} (key : A → ℕ) where
  at_least : (least : ℕ) (xs : List A) → ((j : ℕ) (d : A) → j < length xs → least ≤ key (slice_index_or xs j d)) → AtLeast key least xs
  at_least least [] h = tt
  at_least least (x ∷ xs) h = (h zero x (suc-le-suc zero-le), at_least least xs (λ j d lt. h (suc j) d (suc-le-suc lt)))

  pub rises_by : (xs : List A) → IsNonDecreasingBy key xs → Rises key xs
  rises_by [] h = tt
  rises_by (x ∷ xs) h = (
    at_least (key x) xs (λ j d lt. h zero (suc j) d zero-le (suc-le-suc lt)),
    rises_by xs (λ i j d le lt. h (suc i) (suc j) d (suc-le-suc le) (suc-le-suc lt)),
  )

  -- ---- items of one key keep their order

  same_test : (p q : A → Bool) (xs : List A) → ((x : A) → p x ≡ q x) → filter p xs ≡ filter q xs
  same_test p q [] h = refl
  same_test p q (x ∷ xs) h =
      ap (λ b. cond b (x ∷ filter p xs) (filter p xs)) (h x) ∙ ap (λ rest. cond (q x) (x ∷ rest) rest) (same_test p q xs h)

  kept_at : (x : A) (xs ys : List A) → IsStableByKey key nat_cmp xs ys → filter (has_key key (key x)) ys ≡ filter (has_key key (key x)) xs
  kept_at x xs ys stable =
      let test = λ (other : A). ties_are (key x) (key other) in
      let p : A → Bool = ties (λ a b. is_lt (nat_cmp (key a) (key b))) x in
      sym (same_test p (has_key key (key x)) ys test) ∙ stable x ∙ same_test p (has_key key (key x)) xs test

  -- an item that is among those of a key has it
  found : (k : ℕ) (xs : List A) (x : A) (rest : List A) → filter (has_key key k) xs ≡ x ∷ rest → key x ≡ k
  found k [] x rest e = absurd (cc)
  found k (y ∷ xs) x rest e = go (has_key key k y) refl (λ later. found k xs x rest later)
    where
      go : (b : Bool) → has_key key k y ≡ b → (filter (has_key key k) xs ≡ x ∷ rest → key x ≡ k) → key x ≡ k
      go true t later =
          let e' : y ∷ filter (has_key key k) xs ≡ x ∷ rest = sym (ap (λ b. cond b (y ∷ filter (has_key key k) xs) (filter (has_key key k) xs)) t) ∙ e in
          let same : y ≡ x = cc in ap key (sym same) ∙ reports (key y) k t
      go false t later = later (sym (ap (λ b. cond b (y ∷ filter (has_key key k) xs) (filter (has_key key k) xs)) t) ∙ e)

  kept : (xs ys : List A) → IsStableByKey key nat_cmp xs ys → (k : ℕ) → filter (has_key key k) ys ≡ filter (has_key key k) xs
  kept xs ys stable k = go (filter (has_key key k) ys) refl
    where
      at : (x : A) → key x ≡ k → filter (has_key key k) ys ≡ filter (has_key key k) xs
      at x e = ap (λ r. filter (has_key key r) ys) (sym e) ∙ kept_at x xs ys stable ∙ ap (λ r. filter (has_key key r) xs) e

      none : (zs : List A) → filter (has_key key k) xs ≡ zs → filter (has_key key k) ys ≡ [] → filter (has_key key k) ys ≡ filter (has_key key k) xs
      none [] f e = e ∙ sym f
      none (x ∷ rest) f e = at x (found k xs x rest f)

      go : (zs : List A) → filter (has_key key k) ys ≡ zs → filter (has_key key k) ys ≡ filter (has_key key k) xs
      go [] e = none (filter (has_key key k) xs) refl e
      go (x ∷ rest) e = at x (found k ys x rest e)

  pub is_sort : (xs ys : List A) → IsNonDecreasingBy key ys → IsStableByKey key nat_cmp xs ys → IsSortOf key xs ys
  is_sort xs ys up stable = record { rises = rises_by ys up; stays = kept xs ys stable }

  -- ---- and no other list does

  -- an item that is among those of a key is at or above the least key
  above : (least k : ℕ) (xs : List A) (x : A) (rest : List A) → AtLeast key least xs → filter (has_key key k) xs ≡ x ∷ rest → least ≤ k
  above least k [] x rest h e = absurd (cc)
  above least k (y ∷ xs) x rest h e = go (has_key key k y) refl (λ later. above least k xs x rest h.1 later)
    where
      go : (b : Bool) → has_key key k y ≡ b → (filter (has_key key k) xs ≡ x ∷ rest → least ≤ k) → least ≤ k
      go true t later = let same = reports (key y) k t in let first = h.0 in omega (arith, same, first)
      go false t later = later (sym (ap (λ b. cond b (y ∷ filter (has_key key k) xs) (filter (has_key key k) xs)) t) ∙ e)

  here : (x : A) (xs : List A) (k : ℕ) → key x ≡ k → filter (has_key key k) (x ∷ xs) ≡ x ∷ filter (has_key key k) xs
  here x xs k e = ap (λ b. cond b (x ∷ filter (has_key key k) xs) (filter (has_key key k) xs)) (is_same (key x) k e)

  elsewhere : (x : A) (xs : List A) (k : ℕ) → has_key key k x ≡ false → filter (has_key key k) (x ∷ xs) ≡ filter (has_key key k) xs
  elsewhere x xs k e = ap (λ b. cond b (x ∷ filter (has_key key k) xs) (filter (has_key key k) xs)) e

  with_self : (x : A) (xs : List A) → AtLeast key (key x) xs → AtLeast key (key x) (x ∷ xs)
  with_self x xs h = (omega arith, h)

  heads : (x y : A) (xs ys : List A) → Rises key (x ∷ xs) → Rises key (y ∷ ys) → ((k : ℕ) → filter (has_key key k) (x ∷ xs) ≡ filter (has_key key k) (y ∷ ys)) → key x ≡ key y
  heads x y xs ys up down same =
      let low = above (key y) (key x) (y ∷ ys) x (filter (has_key key (key x)) xs) (with_self y ys down.0) (sym (same (key x)) ∙ here x xs (key x) refl) in
      let high = above (key x) (key y) (x ∷ xs) y (filter (has_key key (key y)) ys) (with_self x xs up.0) (same (key y) ∙ here y ys (key y) refl) in
      omega (arith, low, high)

  tails : (x y : A) (xs ys : List A) → key x ≡ key y → ((k : ℕ) → filter (has_key key k) (x ∷ xs) ≡ filter (has_key key k) (y ∷ ys)) → (k : ℕ) → filter (has_key key k) xs ≡ filter (has_key key k) ys
  tails x y xs ys first same k = go (has_key key k x) refl
    where
      go : (b : Bool) → has_key key k x ≡ b → filter (has_key key k) xs ≡ filter (has_key key k) ys
      go true t =
          let own = reports (key x) k t in
          let joined : x ∷ filter (has_key key k) xs ≡ y ∷ filter (has_key key k) ys = sym (here x xs k own) ∙ same k ∙ here y ys k (sym first ∙ own) in
          cc
      go false t = sym (elsewhere x xs k t) ∙ same k ∙ elsewhere y ys k (ap (λ n. n == k) (sym first) ∙ t)

  pub only_one : (xs ys : List A) → Rises key xs → Rises key ys → ((k : ℕ) → filter (has_key key k) xs ≡ filter (has_key key k) ys) → xs ≡ ys
  only_one [] [] up down same = refl
  only_one [] (y ∷ ys) up down same = absurd (let e = same (key y) ∙ here y ys (key y) refl in cc)
  only_one (x ∷ xs) [] up down same = absurd (let e = sym (same (key x)) ∙ here x xs (key x) refl in cc)
  only_one (x ∷ xs) (y ∷ ys) up down same =
      let first = heads x y xs ys up down same in
      let joined : x ∷ filter (has_key key (key x)) xs ≡ y ∷ filter (has_key key (key x)) ys = sym (here x xs (key x) refl) ∙ same (key x) ∙ here y ys (key x) (sym first) in
      let head : x ≡ y = cc in
      let rest : xs ≡ ys = only_one xs ys up.1 down.1 (tails x y xs ys first same) in
      λ i. head i ∷ rest i
