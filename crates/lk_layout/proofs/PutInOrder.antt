-- Items that are put one by one, each behind those of its key, make a stable sort.
use Rattle.std.specs.Prelude.{◌≡◌, refl, ℕ, zero, suc, ◌+◌, ◌<◌, ◌≤◌, ◌==◌, nat_le, Bool, true, false, cond, List, [], ◌∷◌, ◌++◌, drop, filter, fold, length, take, take_while}
use Rattle.std.specs.List.{prefix_len}
use Rattle.std.proofs.Common.{sym, ap, ◌∙◌, arith}
use Rattle.std.proofs.lemmas.Bool.Decides.{nat_tests}
use Rattle.std.proofs.lemmas.List.{append-nil, append_assoc}
use Rattle.std.proofs.lemmas.List.Elements.{filter-append}
use Rattle.lk_model.specs.Rooms.{array_rank, by_number, put_by_number}
use Rattle.lk_model.specs.Views.{KeptPiece}
use Rattle.lk_layout.specs.Sorts.{AtLeast, Rises, has_key, IsSortOf}
use Rattle.lk_layout.proofs.SortedOnce.{is_other, reports}

le_reports : (a b : ℕ) → nat_le a b ≡ true → a ≤ b
le_reports a b e = grind (arith, nat_tests)

gt_reports : (a b : ℕ) → nat_le a b ≡ false → b < a
gt_reports a b e = grind (arith, nat_tests)

module _ {A : Type 0} (key : A → ℕ) where
  -- an item is not before another one's key
  abbrev goes_before : A → A → Bool
  goes_before p x = nat_le (key x) (key p)

  -- an item put behind those whose keys are not greater
  abbrev put_after : List A → A → List A
  put_after xs p = take_while (goes_before p) xs ++ p ∷ drop (prefix_len (goes_before p) xs) xs

  -- the same by recursion
  abbrev put_in : List A → A → List A
  put_in [] p = p ∷ []
  put_in (x ∷ xs) p = cond (goes_before p x) (x ∷ put_in xs p) (p ∷ x ∷ xs)

  parts : (b : Bool) (n : ℕ) (x p : A) (xs : List A) → take (cond b (1 + n) 0) (x ∷ xs) ++ p ∷ drop (cond b (1 + n) 0) (x ∷ xs) ≡ cond b (x ∷ (take n xs ++ p ∷ drop n xs)) (p ∷ x ∷ xs)
  parts true n x p xs = let one : 1 + n ≡ suc n = omega arith in rw one refl
  parts false n x p xs = refl

  put_is : (xs : List A) (p : A) → put_after xs p ≡ put_in xs p
  put_is [] p = refl
  put_is (x ∷ xs) p = parts (goes_before p x) (prefix_len (goes_before p) xs) x p xs ∙ ap (λ rest. cond (goes_before p x) (x ∷ rest) (p ∷ x ∷ xs)) (put_is xs p)

  weaker : (a b : ℕ) (xs : List A) → a ≤ b → AtLeast key b xs → AtLeast key a xs
  weaker a b [] le h = tt
  weaker a b (x ∷ xs) le h = let first = h.0 in (omega arith, weaker a b xs le h.1)

  at_least_put : (least : ℕ) (xs : List A) (p : A) → AtLeast key least xs → least ≤ key p → AtLeast key least (put_in xs p)
  at_least_put least [] p h le = (le, tt)
  at_least_put least (x ∷ xs) p h le = go (goes_before p x) (at_least_put least xs p h.1 le)
    where
      go : (b : Bool) → AtLeast key least (put_in xs p) → AtLeast key least (cond b (x ∷ put_in xs p) (p ∷ x ∷ xs))
      go true rest = (h.0, rest)
      go false rest = (le, h)

  rises_put : (xs : List A) (p : A) → Rises key xs → Rises key (put_in xs p)
  rises_put [] p h = (tt, tt)
  rises_put (x ∷ xs) p h = go (goes_before p x) refl (rises_put xs p h.1)
    where
      go : (b : Bool) → goes_before p x ≡ b → Rises key (put_in xs p) → Rises key (cond b (x ∷ put_in xs p) (p ∷ x ∷ xs))
      go true e rest = (at_least_put (key x) xs p h.0 (le_reports (key x) (key p) e), rest)
      go false e rest = let low = gt_reports (key x) (key p) e in ((omega (arith, low), weaker (key p) (key x) xs (omega (arith, low)) h.0), h)

  none_above : (k : ℕ) (xs : List A) → AtLeast key (suc k) xs → filter (has_key key k) xs ≡ []
  none_above k [] h = refl
  none_above k (x ∷ xs) h =
      let first = h.0 in
      ap (λ b. cond b (x ∷ filter (has_key key k) xs) (filter (has_key key k) xs)) (is_other (key x) k (λ e. omega (arith, first, e))) ∙ none_above k xs h.1

  -- an item before greater ones is among those of a key as it is behind them
  before_greater : (k : ℕ) (p : A) (ys : List A) → AtLeast key (suc (key p)) ys → filter (has_key key k) (p ∷ ys) ≡ filter (has_key key k) (ys ++ p ∷ [])
  before_greater k p ys h = go (has_key key k p) refl ∙ sym (filter-append (has_key key k) ys (p ∷ []))
    where
      go : (b : Bool) → has_key key k p ≡ b → cond b (p ∷ filter (has_key key k) ys) (filter (has_key key k) ys) ≡ filter (has_key key k) ys ++ cond b (p ∷ []) []
      go true e =
          let own = reports (key p) k e in
          let none : filter (has_key key k) ys ≡ [] = none_above k ys (weaker (suc k) (suc (key p)) ys (omega (arith, own)) h) in
          ap (λ zs. p ∷ zs) none ∙ ap (λ zs. zs ++ p ∷ []) (sym none)
      go false e = sym (append-nil (filter (has_key key k) ys))

  stays_put : (k : ℕ) (xs : List A) (p : A) → Rises key xs → filter (has_key key k) (put_in xs p) ≡ filter (has_key key k) (xs ++ p ∷ [])
  stays_put k [] p h = refl
  stays_put k (x ∷ xs) p h = go (goes_before p x) refl (stays_put k xs p h.1)
    where
      go : (b : Bool) → goes_before p x ≡ b → filter (has_key key k) (put_in xs p) ≡ filter (has_key key k) (xs ++ p ∷ []) → filter (has_key key k) (cond b (x ∷ put_in xs p) (p ∷ x ∷ xs)) ≡ filter (has_key key k) (x ∷ xs ++ p ∷ [])
      go true e rest = ap (λ zs. cond (has_key key k x) (x ∷ zs) zs) rest
      go false e rest = let low = gt_reports (key x) (key p) e in before_greater k p (x ∷ xs) (omega (arith, low), weaker (suc (key p)) (key x) xs (omega (arith, low)) h.0)

  put_sorted : (done sorted : List A) (p : A) → IsSortOf key done sorted → IsSortOf key (done ++ p ∷ []) (put_after sorted p)
  put_sorted done sorted p s = rw (put_is sorted p) (record {
    rises = rises_put sorted p s.rises;
    stays = λ k. stays_put k sorted p s.rises ∙ filter-append (has_key key k) sorted (p ∷ []) ∙ ap (λ zs. zs ++ filter (has_key key k) (p ∷ [])) (s.stays k) ∙ sym (filter-append (has_key key k) done (p ∷ []));
  })

  puts_sorted : (done sorted xs : List A) → IsSortOf key done sorted → IsSortOf key (done ++ xs) (fold put_after sorted xs)
  puts_sorted done sorted [] s = rw (append-nil done) s
  puts_sorted done sorted (x ∷ xs) s = rw (sym (append_assoc done (x ∷ []) xs)) (puts_sorted (done ++ x ∷ []) (put_after sorted x) xs (put_sorted done sorted x s))

  pub put_all_sorted : (xs : List A) → IsSortOf key xs (fold put_after [] xs)
  put_all_sorted xs = puts_sorted [] [] xs (record { rises = tt; stays = λ k. refl })

-- pieces by their number are a stable sort of them
pub by_number_sorted : (pieces : List KeptPiece) → IsSortOf array_rank pieces (by_number pieces)
by_number_sorted pieces = put_all_sorted array_rank pieces
