-- Ranges in rising order: what is apart from the first that ends past a place is apart from all.
use Rattle.std.specs.Prelude.{◌≡◌, refl, ℕ, ◌+◌, ◌<◌, ◌≤◌, ◌==◌, ◌&&◌, ◌||◌, Bool, true, false, List, [], ◌∷◌, nat_le, nat_lt, cond}
use Rattle.std.specs.Ordering.{nat_cmp, match_ordering, MatchOrdering}
use Rattle.std.specs.declared.cmp.Ordering.{Ordering}
use Rattle.std.specs.declared.cmp.Ordering.TheVariants.{Less, Equal, Greater}
use Rattle.std.specs.declared.ops.Bound.TheVariants.{Included, Unbounded}
use Rattle.std.specs.BTreeMap.{insert_entry}
use Rattle.std.specs.BTreeMap.Range.{range_contains, entries_between}
use Rattle.std.proofs.Common.{ap, arith, sym, subst, ◌∙◌}
use Rattle.std.proofs.lemmas.Bool.{le-leb}
use Rattle.std.proofs.lemmas.Bool.Decides.{nat_tests}
use Rattle.std.proofs.lemmas.Cmp.{ranked}
use Rattle.lk_model.specs.Lawful.{share_nothing}
use Rattle.lk_records_read.specs.TakenRanges.{AreTaken, Rising, are_free, is_apart, is_free}

both : (a b : Bool) → a ≡ true → b ≡ true → (a && b) ≡ true
both a b p q = ap (λ c. c && b) p ∙ q

first : (a b : Bool) → (a && b) ≡ true → a ≡ true
first true b p = refl
first false b p = absurd (cc)

second : (a b : Bool) → (a && b) ≡ true → b ≡ true
second true b p = p
second false b p = absurd (cc)

-- ---- the ranges that end past a place

abbrev after : ℕ → List (ℕ × ℕ) → List (ℕ × ℕ)
after s ranges = entries_between nat_cmp (Included (s + 1)) Unbounded ranges

abbrev ends_after : ℕ → ℕ → Bool
ends_after s end = range_contains nat_cmp (Included (s + 1)) Unbounded end

ends_past : (s end : ℕ) → ends_after s end ≡ nat_lt s end
ends_past s end = grind (arith, nat_tests)

low : (s : ℕ) (e : ℕ) (r : ℕ × ℕ) → ends_after s r.0 ≡ false → is_apart s e r ≡ true
low s e r p = let q = sym (ends_past s r.0) ∙ p in grind (arith, nat_tests, q)

high : (s : ℕ) (e : ℕ) (r : ℕ × ℕ) → ends_after s r.0 ≡ true → is_apart s e r ≡ nat_le e r.1
high s e r p = let q = sym (ends_past s r.0) ∙ p in grind (arith, nat_tests, q)

none-step : (b : Bool) (s e : ℕ) (r : ℕ × ℕ) (rs : List (ℕ × ℕ)) → ends_after s r.0 ≡ b → (after s rs ≡ [] → is_free rs s e ≡ true) → cond b (r ∷ after s rs) (after s rs) ≡ [] → is_free (r ∷ rs) s e ≡ true
none-step true s e r rs p more h = absurd (cc)
none-step false s e r rs p more h = both (is_apart s e r) (is_free rs s e) (low s e r p) (more h)

pub none_after : (s e : ℕ) (rs : List (ℕ × ℕ)) → after s rs ≡ [] → is_free rs s e ≡ true
none_after s e [] h = refl
none_after s e (r ∷ rs) h = none-step (ends_after s r.0) s e r rs refl (none_after s e rs) h

-- what ends before all of them is apart from all
pub before_all : (c s e : ℕ) (rs : List (ℕ × ℕ)) → Rising c rs → e ≤ c → is_free rs s e ≡ true
before_all c s e [] h l = refl
before_all c s e (r ∷ rs) h l =
    let starts : c ≤ r.1 = h.0 in
    let ends : r.1 < r.0 = h.1 in
    let here : e ≤ r.1 = omega (arith, l, starts) in
    let there : e ≤ r.0 = omega (arith, here, ends) in
    let apart : is_apart s e r ≡ true = let t = le-leb e r.1 here in grind (arith, nat_tests, here) in
    both (is_apart s e r) (is_free rs s e) apart (before_all r.0 s e rs h.2 there)

same-head : (r x : ℕ × ℕ) (rs xs : List (ℕ × ℕ)) → r ∷ rs ≡ x ∷ xs → r ≡ x
same-head r x rs xs h = cc

on-first : (d : Bool) (e : ℕ) (r : ℕ × ℕ) (f : Bool) → nat_le e r.1 ≡ d → (d ≡ true → f ≡ true) → d ≡ (d && f)
on-first true e r f p more = sym (more refl)
on-first false e r f p more = refl

fits : (e n : ℕ) → nat_le e n ≡ true → e ≤ n
fits e n p = grind (arith, nat_tests, p)

found-step : (b : Bool) (c s e : ℕ) (r x : ℕ × ℕ) (rs xs : List (ℕ × ℕ)) → ends_after s r.0 ≡ b → Rising c (r ∷ rs) → (after s rs ≡ x ∷ xs → nat_le e x.1 ≡ is_free rs s e) → cond b (r ∷ after s rs) (after s rs) ≡ x ∷ xs → nat_le e x.1 ≡ is_free (r ∷ rs) s e
found-step true c s e r x rs xs p h more q =
    let same : r ≡ x = same-head r x (after s rs) xs q in
    let ends : r.1 < r.0 = h.1 in
    let all : nat_le e r.1 ≡ true → is_free rs s e ≡ true = λ t. let u = fits e r.1 t in before_all r.0 s e rs h.2 (omega (arith, u, ends)) in
    ap (λ (y : ℕ × ℕ). nat_le e y.1) (sym same)
    ∙ on-first (nat_le e r.1) e r (is_free rs s e) refl all
    ∙ ap (λ d. d && is_free rs s e) (sym (high s e r p))
found-step false c s e r x rs xs p h more q =
    more q ∙ ap (λ d. d && is_free rs s e) (sym (low s e r p))

pub found_after : (c s e : ℕ) (rs xs : List (ℕ × ℕ)) (x : ℕ × ℕ) → Rising c rs → after s rs ≡ x ∷ xs → nat_le e x.1 ≡ is_free rs s e
found_after c s e [] xs x h q = absurd (cc)
found_after c s e (r ∷ rs) xs x h q = found-step (ends_after s r.0) c s e r x rs xs refl h (found_after r.0 s e rs xs x h.2) q

-- ---- one range more

module _ (s e : ℕ) (l : s < e) where
  at-or-past : (r : ℕ × ℕ) → r.1 < r.0 → is_apart s e r ≡ true → r.0 < e → r.0 ≤ s
  at-or-past r k p q = grind (arith, nat_tests, l, k, p, q)

  ahead : (r : ℕ × ℕ) → is_apart s e r ≡ true → e < r.0 → e ≤ r.1
  ahead r p q = grind (arith, nat_tests, l, p, q)

  never : (r : ℕ × ℕ) → r.1 < r.0 → is_apart s e r ≡ true → e ≡ r.0 → ⊥
  never r k p q = let q1 : e ≤ r.0 = omega (arith, q) in let q2 : r.0 ≤ e = omega (arith, q) in grind (arith, nat_tests, l, k, p, q1, q2)

  rising-step : (o : Ordering) (c : ℕ) (r : ℕ × ℕ) (rs : List (ℕ × ℕ)) → MatchOrdering o (e < r.0) (e ≡ r.0) (r.0 < e) → Rising c (r ∷ rs) → c ≤ s → is_apart s e r ≡ true → (r.0 ≤ s → Rising r.0 (insert_entry nat_cmp rs e s)) → Rising c (match_ordering o ((e, s) ∷ r ∷ rs) ((r.0, s) ∷ rs) (r ∷ insert_entry nat_cmp rs e s))
  rising-step Less c r rs m h k p more = (k, l, (ahead r p m, h.1, h.2))
  rising-step Equal c r rs m h k p more = absurd (never r h.1 p m)
  rising-step Greater c r rs m h k p more = (h.0, h.1, more (at-or-past r h.1 p m))

  pub still_rising : (c : ℕ) (rs : List (ℕ × ℕ)) → Rising c rs → c ≤ s → is_free rs s e ≡ true → Rising c (insert_entry nat_cmp rs e s)
  still_rising c [] h k p = (k, l, tt)
  still_rising c (r ∷ rs) h k p =
      rising-step (nat_cmp e r.0) c r rs (ranked e r.0 (nat_cmp e r.0) refl) h k (first (is_apart s e r) (is_free rs s e) p)
      (λ past. still_rising r.0 rs h.2 past (second (is_apart s e r) (is_free rs s e) p))

  and-comm : (a b : Bool) → (a && b) ≡ (b && a)
  and-comm true true = refl
  and-comm true false = refl
  and-comm false true = refl
  and-comm false false = refl

  and-assoc : (a b d : Bool) → (a && (b && d)) ≡ ((a && b) && d)
  and-assoc true b d = refl
  and-assoc false b d = refl

  free-step : (o : Ordering) (a b : ℕ) (r : ℕ × ℕ) (rs : List (ℕ × ℕ)) → MatchOrdering o (e < r.0) (e ≡ r.0) (r.0 < e) → r.1 < r.0 → is_apart s e r ≡ true → is_free (insert_entry nat_cmp rs e s) a b ≡ (is_free rs a b && is_apart a b (e, s)) → is_free (match_ordering o ((e, s) ∷ r ∷ rs) ((r.0, s) ∷ rs) (r ∷ insert_entry nat_cmp rs e s)) a b ≡ (is_free (r ∷ rs) a b && is_apart a b (e, s))
  free-step Less a b r rs m h p more = and-comm (is_apart a b (e, s)) (is_free (r ∷ rs) a b)
  free-step Equal a b r rs m h p more = absurd (never r h p m)
  free-step Greater a b r rs m h p more = ap (λ d. is_apart a b r && d) more ∙ and-assoc (is_apart a b r) (is_free rs a b) (is_apart a b (e, s))

  free_beside : (c a b : ℕ) (rs : List (ℕ × ℕ)) → Rising c rs → is_free rs s e ≡ true → is_free (insert_entry nat_cmp rs e s) a b ≡ (is_free rs a b && is_apart a b (e, s))
  free_beside c a b [] h p = and-comm (is_apart a b (e, s)) true
  free_beside c a b (r ∷ rs) h p =
      free-step (nat_cmp e r.0) a b r rs (ranked e r.0 (nat_cmp e r.0) refl) h.1 (first (is_apart s e r) (is_free rs s e) p)
      (free_beside r.0 a b rs h.2 (second (is_apart s e r) (is_free rs s e) p))

-- ---- so many bytes

is-apart-sized : (s z start size : ℕ) → 0 < size → (z == 0) ≡ false → is_apart s (s + z) (start + size, start) ≡ share_nothing s z start size
is-apart-sized s z start size l p = grind (arith, nat_tests, l, p)

taken-step : (d : Bool) (s z start size : ℕ) (old new : List (ℕ × ℕ)) → (z == 0) ≡ d → 0 < size → is_free new s (s + z) ≡ (is_free old s (s + z) && is_apart s (s + z) (start + size, start)) → (d || is_free new s (s + z)) ≡ ((d || is_free old s (s + z)) && share_nothing s z start size)
taken-step true s z start size old new p l more = let q : share_nothing s z start size ≡ true = ap (λ (t : Bool). t || (size == 0) || nat_le (s + z) start || nat_le (start + size) s) p in sym q
taken-step false s z start size old new p l more = more ∙ ap (λ t. is_free old s (s + z) && t) (is-apart-sized s z start size l p)

pub taken : (start size end : ℕ) (rs : List (ℕ × ℕ)) → Rising 0 rs → 0 < size → end ≡ start + size → is_free rs start end ≡ true → AreTaken rs start size (insert_entry nat_cmp rs end start)
taken start size end rs h l q p =
    subst (λ n. AreTaken rs start size (insert_entry nat_cmp rs n start)) (sym q)
    (λ s z.
    taken-step (z == 0) s z start size rs (insert_entry nat_cmp rs (start + size) start) refl l
    (free_beside start (start + size) (omega (arith, l)) 0 s (s + z) rs h (subst (λ n. is_free rs start n ≡ true) q p)))

nothing-shared : (s z start size : ℕ) → size ≡ 0 → share_nothing s z start size ≡ true
nothing-shared s z start size e = grind (arith, nat_tests, e)

and-true : (b : Bool) → b ≡ (b && true)
and-true true = refl
and-true false = refl

pub none_taken : (start size : ℕ) (rs : List (ℕ × ℕ)) → size ≡ 0 → AreTaken rs start size rs
none_taken start size rs e = λ s z. and-true (are_free rs s z) ∙ ap (λ t. are_free rs s z && t) (sym (nothing-shared s z start size e))

pub none_free : (start size : ℕ) (rs : List (ℕ × ℕ)) → size ≡ 0 → are_free rs start size ≡ true
none_free start size rs e = ap (λ n. (n == 0) || is_free rs start (start + n)) e

pub free_sized : (start size end : ℕ) (rs : List (ℕ × ℕ)) → 0 < size → end ≡ start + size → are_free rs start size ≡ is_free rs start end
free_sized start size end rs l e =
    let some : (size == 0) ≡ false = grind (arith, nat_tests, l) in
    ap (λ t. t || is_free rs start (start + size)) some ∙ ap (λ n. is_free rs start n) (sym e)
