-- Symbols whose numbers rise are found by halving.
use Rattle.std.proofs.Common.{◌≡◌, refl, sym, ap, ◌∙◌, arith, ℕ, zero, suc, ◌+◌, ◌<◌, ◌≤◌, ◌==◌, ◌&&◌, Bool, true, false, cond, nat_lt, List, [], ◌∷◌, length, get_or, find, slice_get, Option, Some, None}
use Rattle.std.proofs.lemmas.Bool.Decides.{nat_tests}
use Rattle.std.specs.List.{list_all}
use Rattle.lk_model.specs.declared.summaries.Global.{Global}
use Rattle.lk_model.specs.declared.summaries.InputSummary.{InputSummary}
use Rattle.lk_symbol_values.specs.InputSymbols.{has_number, numbers_rise, rise_from, where_numbered}

less_reports : (a b : ℕ) → nat_lt a b ≡ true → a < b
less_reports a b h = grind (arith, nat_tests)

one : (a b : Bool) → (a && b) ≡ true → a ≡ true
one true b h = refl
one false b h = h

other : (a b : Bool) → (a && b) ≡ true → b ≡ true
other true b h = h
other false b h = absurd (cc)

-- each number is above the first
rises_above : (from i : ℕ) (gs : List Global) (d : Global) → rise_from from gs ≡ true → i < length gs → from < (get_or gs i d).symbol
rises_above from i [] d rises within = absurd (omega arith)
rises_above from zero (g ∷ gs) d rises within = less_reports from g.symbol (one (nat_lt from g.symbol) (rise_from g.symbol gs) rises)
rises_above from (suc i) (g ∷ gs) d rises within =
    let first = less_reports from g.symbol (one (nat_lt from g.symbol) (rise_from g.symbol gs) rises) in
    let later = rises_above g.symbol i gs d (other (nat_lt from g.symbol) (rise_from g.symbol gs) rises) (omega arith) in
    omega (arith, first, later)

-- a later one is not below an earlier one
pub symbols_rise : (from i j : ℕ) (gs : List Global) (d : Global) → rise_from from gs ≡ true → i ≤ j → j < length gs → (get_or gs i d).symbol ≤ (get_or gs j d).symbol
symbols_rise from i j [] d rises order within = absurd (omega arith)
symbols_rise from zero zero (g ∷ gs) d rises order within = omega arith
symbols_rise from zero (suc j) (g ∷ gs) d rises order within =
    let above = rises_above g.symbol j gs d (other (nat_lt from g.symbol) (rise_from g.symbol gs) rises) (omega arith) in
    omega (arith, above)
symbols_rise from (suc i) zero (g ∷ gs) d rises order within = absurd (omega arith)
symbols_rise from (suc i) (suc j) (g ∷ gs) d rises order within = symbols_rise g.symbol i j gs d (other (nat_lt from g.symbol) (rise_from g.symbol gs) rises) (omega arith) (omega arith)

-- what is lower or higher is not it
lower_differs : (a b : ℕ) → a < b → (a == b) ≡ false
lower_differs a b lower = grind (arith, nat_tests)

higher_differs : (a b : ℕ) → b < a → (a == b) ≡ false
higher_differs a b higher = grind (arith, nat_tests)

higher_unless : (a b : ℕ) → b ≤ a → (a == b) ≡ false → b < a
higher_unless a b least differs = grind (arith, nat_tests)

-- none is found behind a higher one
none_behind : (t from : ℕ) (gs : List Global) → rise_from from gs ≡ true → t < from → find (has_number t) gs ≡ None
none_behind t from [] rises higher = refl
none_behind t from (g ∷ gs) rises higher =
    let first = less_reports from g.symbol (one (nat_lt from g.symbol) (rise_from g.symbol gs) rises) in
    let above : t < g.symbol = omega (arith, higher, first) in
    ap (λ b. cond b (Some g) (find (has_number t) gs)) (higher_differs g.symbol t above)
    ∙ none_behind t g.symbol gs (other (nat_lt from g.symbol) (rise_from g.symbol gs) rises) above

-- the next one is it, or there is none
first_or_none : (t : ℕ) (g : Global) (gs : List Global) → rise_from g.symbol gs ≡ true → t ≤ g.symbol → (b : Bool) → (g.symbol == t) ≡ b → cond b (Some g) (find (has_number t) gs) ≡ cond b (Some g) None
first_or_none t g gs rises least true is = refl
first_or_none t g gs rises least false is = none_behind t g.symbol gs rises (higher_unless g.symbol t least is)

pub found_behind : (t from : ℕ) (gs : List Global) (i : ℕ) → rise_from from gs ≡ true
    → ((k : ℕ) (d : Global) → k < i → (get_or gs k d).symbol < t)
    → ((k : ℕ) (d : Global) → i ≤ k → k < length gs → t ≤ (get_or gs k d).symbol)
    → find (has_number t) gs ≡ where_numbered t (slice_get gs i)
found_behind t from [] zero rises below above = refl
found_behind t from [] (suc i) rises below above = refl
found_behind t from (g ∷ gs) zero rises below above =
    first_or_none t g gs (other (nat_lt from g.symbol) (rise_from g.symbol gs) rises) (above 0 g (omega arith) (omega arith)) (g.symbol == t) refl
found_behind t from (g ∷ gs) (suc i) rises below above =
    ap (λ b. cond b (Some g) (find (has_number t) gs)) (lower_differs g.symbol t (below 0 g (omega arith)))
    ∙ found_behind t g.symbol gs i (other (nat_lt from g.symbol) (rise_from g.symbol gs) rises)
    (λ k d lower. below (suc k) d (omega (arith, lower)))
    (λ k d least within. above (suc k) d (omega (arith, least)) (omega (arith, within)))

-- the numbers of one input rise where those of all do
pub one_rises : (xs : List InputSummary) (i : ℕ) (s : InputSummary) → list_all numbers_rise xs ≡ true → slice_get xs i ≡ Some s → numbers_rise s ≡ true
one_rises [] i s all at = absurd (cc)
one_rises (x ∷ xs) zero s all at = let e : x ≡ s = cc in ap numbers_rise (sym e) ∙ one (numbers_rise x) (list_all numbers_rise xs) all
one_rises (x ∷ xs) (suc i) s all at = one_rises xs i s (other (numbers_rise x) (list_all numbers_rise xs) all) at

-- a symbol that has a number is the only one, where numbers rise
above_first : (from i : ℕ) (gs : List Global) (g : Global) → rise_from from gs ≡ true → slice_get gs i ≡ Some g → from < g.symbol
above_first from i [] g rises at = absurd (cc)
above_first from zero (x ∷ gs) g rises at =
    let is : x ≡ g = cc in
    let e = ap (λ (y : Global). y.symbol) is in
    let first = less_reports from x.symbol (one (nat_lt from x.symbol) (rise_from x.symbol gs) rises) in
    omega (arith, first, e)
above_first from (suc i) (x ∷ gs) g rises at =
    let first = less_reports from x.symbol (one (nat_lt from x.symbol) (rise_from x.symbol gs) rises) in
    let later = above_first x.symbol i gs g (other (nat_lt from x.symbol) (rise_from x.symbol gs) rises) at in
    omega (arith, first, later)

equal_reports : (a b : ℕ) → (a == b) ≡ true → a ≡ b
equal_reports a b h = grind (arith, nat_tests)

found_at : (t from i : ℕ) (gs : List Global) (g : Global) → rise_from from gs ≡ true → slice_get gs i ≡ Some g → has_number t g ≡ true → find (has_number t) gs ≡ Some g
found_at t from i [] g rises at is = absurd (cc)
found_at t from zero (x ∷ gs) g rises at is =
    let same : x ≡ g = cc in
    ap (λ b. cond b (Some x) (find (has_number t) gs)) (ap (has_number t) same ∙ is) ∙ ap (λ (y : Global). Some y) same
found_at t from (suc i) (x ∷ gs) g rises at is =
    let later = other (nat_lt from x.symbol) (rise_from x.symbol gs) rises in
    let above = above_first x.symbol i gs g later at in
    let same = equal_reports g.symbol t is in
    ap (λ b. cond b (Some x) (find (has_number t) gs)) (lower_differs x.symbol t (omega (arith, above, same)))
    ∙ found_at t x.symbol i gs g later at is

has_it : (t : ℕ) (g x : Global) (b : Bool) → has_number t x ≡ b → cond b (Some x) None ≡ Some g → (x ≡ g) × (has_number t x ≡ true)
has_it t g x true is at = (cc, is)
has_it t g x false is at = absurd (cc)

pub found_where : (t i : ℕ) (gs : List Global) (g : Global) → rise_from 0 gs ≡ true → where_numbered t (slice_get gs i) ≡ Some g → find (has_number t) gs ≡ Some g
found_where t i gs g rises at = by (slice_get gs i) refl at
  where
    by : (o : Option Global) → slice_get gs i ≡ o → where_numbered t o ≡ Some g → find (has_number t) gs ≡ Some g
    by None is none = absurd (cc)
    by (Some x) is some =
        let (same, has) = has_it t g x (has_number t x) refl some in
        found_at t 0 i gs x rises is has ∙ ap (λ (y : Global). Some y) same
