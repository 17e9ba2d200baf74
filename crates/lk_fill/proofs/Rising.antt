-- Ranges that rise: those of a row are together, and rise by where they start.
use Rattle.std.proofs.Common.{◌≡◌, ℕ, zero, suc, Bool, true, false, cond, ◌&&◌, ◌||◌, ◌==◌, nat_lt, ◌+◌, ◌<◌, ◌≤◌, List, [], ◌∷◌, length, take, drop, get_or, refl, sym, ap, ◌∙◌, arith, suc-le-suc, zero-le}
use Rattle.std.specs.Cmp.{IsStrictWeakOrder}
use Rattle.std.specs.List.{AllByRecursion}
use Rattle.std.specs.List.Sorted.{IsNonDecreasingBy, IsSortedBy}
use Rattle.std.specs.Ordering.{is_lt, nat_cmp, ordering_then}
use Rattle.std.proofs.lemmas.Bool.Decides.{nat_tests}
use Rattle.std.proofs.lemmas.List.{get_or-drop, length-drop}
use Rattle.std.proofs.lemmas.List.Kept.{IsSortedBy-filter}
use Rattle.std.proofs.lemmas.List.Sorted.{sorted_far}
use Rattle.lk_fill.specs.Covering.{comes_before, is_in_row, ranges_in}
use Rattle.lk_fill.specs.declared.covering.Covered.{Covered}

-- ---- the order by two numbers

abbrev before : ℕ → ℕ → ℕ → ℕ → Bool
before a b c d = nat_lt a c || (a == c && nat_lt b d)

one_way_of : (a b c d : ℕ) → before a b c d ≡ true → before c d a b ≡ false
one_way_of a b c d is = grind (arith, nat_tests)

chain_of : (a b c d e f : ℕ) → before a b c d ≡ false → before c d e f ≡ false → before a b e f ≡ false
chain_of a b c d e f first second = grind (arith, nat_tests)

first_le : (a b c d : ℕ) → before c d a b ≡ false → a ≤ c
first_le a b c d is = grind (arith, nat_tests)

second_le : (a b c d : ℕ) → before c d a b ≡ false → a ≡ c → b ≤ d
second_le a b c d is same = grind (arith, nat_tests)

pub before_is : (a b c d : ℕ) → is_lt (ordering_then (nat_cmp a c) (nat_cmp b d)) ≡ before a b c d
before_is a b c d = grind (arith, nat_tests)

pub order : IsStrictWeakOrder comes_before
order = record {
  one_way = λ (x : Covered) (y : Covered) is. one_way_of x.section x.start y.section y.start is;
  chain = λ (x : Covered) (y : Covered) (z : Covered) first second. chain_of x.section x.start y.section y.start z.section z.start first second;
}

-- their rows rise
pub sections_rise : (ranges : List Covered) → IsSortedBy comes_before ranges → IsNonDecreasingBy (λ (range : Covered). range.section) ranges
sections_rise ranges up = λ i j d le within.
    let a = get_or ranges i d in
    let b = get_or ranges j d in
    first_le a.section a.start b.section b.start (sorted_far comes_before order ranges up i j d le within)

-- ---- the ranges of a row

is_same : (a n : ℕ) → a ≤ n → n ≤ a → (a == n) ≡ true
is_same a n low high = grind (arith, nat_tests)

is_below : (a n : ℕ) → a < n → (a == n) ≡ false
is_below a n less = grind (arith, nat_tests)

is_above : (a n : ℕ) → n < a → (a == n) ≡ false
is_above a n less = grind (arith, nat_tests)

-- those of the rows before it are passed over
skip : (n first : ℕ) (xs : List Covered) → ((k : ℕ) (d : Covered) → k < first → (get_or xs k d).section < n) → first ≤ length xs → ranges_in n (drop first xs) ≡ ranges_in n xs
skip n zero xs below within = refl
skip n (suc first) [] below within = absurd (omega arith)
skip n (suc first) (x ∷ xs) below within =
    skip n first xs (λ k d less. below (suc k) d (suc-le-suc less)) (omega arith)
    ∙ sym (ap (λ b. cond b (x ∷ ranges_in n xs) (ranges_in n xs)) (is_below x.section n (below zero x (suc-le-suc zero-le))))

none_above : (n : ℕ) (xs : List Covered) → ((k : ℕ) (d : Covered) → k < length xs → n < (get_or xs k d).section) → ranges_in n xs ≡ []
none_above n [] above = refl
none_above n (x ∷ xs) above =
    ap (λ b. cond b (x ∷ ranges_in n xs) (ranges_in n xs)) (is_above x.section n (above zero x (suc-le-suc zero-le)))
    ∙ none_above n xs (λ k d less. above (suc k) d (suc-le-suc less))

-- of ranges of this row and later ones the first are those of this row
first_run :
    (n count : ℕ) (xs : List Covered)
    → ((k : ℕ) (d : Covered) → k < length xs → n ≤ (get_or xs k d).section)
    → ((k : ℕ) (d : Covered) → k < count → (get_or xs k d).section ≤ n)
    → ((k : ℕ) (d : Covered) → count ≤ k → k < length xs → n < (get_or xs k d).section)
    → take count xs ≡ ranges_in n xs
first_run n zero xs low up past = sym (none_above n xs (λ k d less. past k d zero-le less))
first_run n (suc count) [] low up past = refl
first_run n (suc count) (x ∷ xs) low up past =
    ap (λ ys. x ∷ ys) (first_run n count xs (λ k d less. low (suc k) d (suc-le-suc less)) (λ k d less. up (suc k) d (suc-le-suc less)) (λ k d le less. past (suc k) d (suc-le-suc le) (suc-le-suc less)))
    ∙ sym (ap (λ b. cond b (x ∷ ranges_in n xs) (ranges_in n xs)) (is_same x.section n (up zero x (suc-le-suc zero-le)) (low zero x (suc-le-suc zero-le))))

-- the ranges of a row, found by two halvings
pub run_found :
    (n first count : ℕ) (xs rest found : List Covered)
    → rest ≡ drop first xs
    → found ≡ take count rest
    → first ≤ length xs
    → ((k : ℕ) (d : Covered) → k < first → (get_or xs k d).section < n)
    → ((k : ℕ) (d : Covered) → first ≤ k → k < length xs → n ≤ (get_or xs k d).section)
    → ((k : ℕ) (d : Covered) → k < count → (get_or rest k d).section ≤ n)
    → ((k : ℕ) (d : Covered) → count ≤ k → k < length rest → n < (get_or rest k d).section)
    → found ≡ ranges_in n xs
run_found n first count xs rest found rest_is found_is within below low up past =
    found_is
    ∙ first_run n count rest (λ k d less. at_rest k d less) up past
    ∙ ap (ranges_in n) rest_is
    ∙ skip n first xs below within
  where
    at_rest : (k : ℕ) (d : Covered) → k < length rest → n ≤ (get_or rest k d).section
    at_rest k d less =
        let long : length rest ≡ length (drop first xs) = ap length rest_is in
        let there = low (first + k) d (omega arith) (omega (arith, long, length-drop first xs)) in
        let e : (get_or rest k d).section ≡ (get_or xs (first + k) d).section = ap (λ ys. (get_or ys k d).section) rest_is ∙ ap (λ (r : Covered). r.section) (get_or-drop first xs k d) in
        omega (arith, e, there)

-- ---- they rise by where they start

-- each range starts at or above those before it
abbrev pub Rises : List Covered → Type 0
Rises [] = Unit {0}
Rises (x ∷ xs) = AllByRecursion (λ (other : Covered). x.start ≤ other.start) xs × Rises xs

start_from : (start : ℕ) (xs : List Covered) → ((k : ℕ) (d : Covered) → k < length xs → start ≤ (get_or xs k d).start) → AllByRecursion (λ (other : Covered). start ≤ other.start) xs
start_from start [] above = tt
start_from start (x ∷ xs) above = (above zero x (suc-le-suc zero-le), start_from start xs (λ k d less. above (suc k) d (suc-le-suc less)))

starts_rise : (xs : List Covered) → ((i j : ℕ) (d : Covered) → i ≤ j → j < length xs → (get_or xs i d).start ≤ (get_or xs j d).start) → Rises xs
starts_rise [] up = tt
starts_rise (x ∷ xs) up = (
  start_from x.start xs (λ k d less. up zero (suc k) d zero-le (suc-le-suc less)),
  starts_rise xs (λ i j d le less. up (suc i) (suc j) d (suc-le-suc le) (suc-le-suc less)),
)

-- each range of a row is one of it
in_row_at : (n : ℕ) (xs : List Covered) (k : ℕ) (d : Covered) → k < length (ranges_in n xs) → (get_or (ranges_in n xs) k d).section ≡ n
in_row_at n [] k d less = absurd (omega arith)
in_row_at n (x ∷ xs) k d less = by_test (x.section == n) refl (λ k less. in_row_at n xs k d less) k less
  where
    reports : (a : ℕ) → (a == n) ≡ true → a ≡ n
    reports a is = grind (arith, nat_tests)

    by_test :
        (b : Bool)
        → (x.section == n) ≡ b
        → ((k : ℕ) → k < length (ranges_in n xs) → (get_or (ranges_in n xs) k d).section ≡ n)
        → (k : ℕ)
        → k < length (cond b (x ∷ ranges_in n xs) (ranges_in n xs))
        → (get_or (cond b (x ∷ ranges_in n xs) (ranges_in n xs)) k d).section ≡ n
    by_test true is later zero less = reports x.section is
    by_test true is later (suc k) less = later k (omega arith)
    by_test false is later k less = later k less

pub row_rises : (n : ℕ) (ranges : List Covered) → IsSortedBy comes_before ranges → Rises (ranges_in n ranges)
row_rises n ranges up = starts_rise (ranges_in n ranges) (λ i j d le within. one i j d le within)
  where
    one : (i j : ℕ) (d : Covered) → i ≤ j → j < length (ranges_in n ranges) → (get_or (ranges_in n ranges) i d).start ≤ (get_or (ranges_in n ranges) j d).start
    one i j d le within =
        let a = get_or (ranges_in n ranges) i d in
        let b = get_or (ranges_in n ranges) j d in
        let kept = IsSortedBy-filter comes_before order (is_in_row n) ranges up in
        let one_of_it = in_row_at n ranges i d (omega arith) in
        let other_of_it = in_row_at n ranges j d within in
        second_le a.section a.start b.section b.start (sorted_far comes_before order (ranges_in n ranges) kept i j d le within) (one_of_it ∙ sym other_of_it)
