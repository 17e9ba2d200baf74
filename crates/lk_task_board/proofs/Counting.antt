-- How many numbers pass a test, and whether one does, where the test changes at one number.
use Rattle.std.proofs.Common.{◌≡◌, ℕ, zero, suc, ◌+◌, ◌-◌, ◌==◌, ◌<◌, ◌≤◌, Bool, true, false, not, ◌&&◌, ◌||◌, cond, List, [], ◌∷◌, length, get_or, set, replicate, Option, None, Some, refl, sym, ap, ◌∙◌, subst, inl, inr, arith}
use Rattle.std.specs.List.{list_any}
use Rattle.std.proofs.lemmas.Bool.{false≢true, both_ways, false_from_ne_true, or_cases, or_left, or_right, or_from, eqb-true, cond-true, cond-false, cases_eq, cases_Bool}
use Rattle.lk_task_runs.specs.Below.{has, any_below, count_below, first_from}
use Rattle.lk_task_runs.proofs.NumbersBelow.{any_below_at, any_below_some, any_below_none, none_below, has_head, has_tail}

-- two tests that hold of the same are equal
pub same_test : (a b : Bool) → (a ≡ true → b ≡ true) → (b ≡ true → a ≡ true) → a ≡ b
same_test true b f g = sym (f refl)
same_test false true f g = g refl
same_test false false f g = refl

pub count_same : (p q : ℕ → Bool) (n : ℕ) → ((k : ℕ) → k < n → p k ≡ q k) → count_below p n ≡ count_below q n
count_same p q zero h = refl
count_same p q (suc n) h =
    ap (λ (b : Bool). cond b 1 0 + count_below p n) (h n (omega arith)) ∙ ap (λ (m : ℕ). cond (q n) 1 0 + m) (count_same p q n (λ k l. h k (omega (arith, l))))

plus_suc : (c x y : ℕ) → x ≡ suc y → c + x ≡ suc (c + y)
plus_suc c x y e = omega arith

one_more : (x y : ℕ) → x ≡ y → 1 + x ≡ suc (0 + y)
one_more x y e = omega arith

-- a number that passes no longer makes the count one less
pub count_less : (p q : ℕ → Bool) (n t : ℕ) → t < n → p t ≡ true → q t ≡ false → ((k : ℕ) → k < n → (k ≡ t → ⊥) → p k ≡ q k) → count_below p n ≡ suc (count_below q n)
count_less p q zero t l hit miss h = absurd (omega (arith, l))
count_less p q (suc n) t l hit miss h =
    elim (cases_eq t n) [
      | inl here ↦ (let pn : p n ≡ true = subst (λ (j : ℕ). p j ≡ true) here hit in
          let qn : q n ≡ false = subst (λ (j : ℕ). q j ≡ false) here miss in
          let rest : count_below p n ≡ count_below q n = count_same p q n (λ k kl. h k (omega (arith, kl)) (λ (e : k ≡ t). absurd (omega (arith, e, here, kl)))) in
          ap (λ (b : Bool). cond b 1 0 + count_below p n) pn ∙ one_more (count_below p n) (count_below q n) rest ∙ ap (λ (b : Bool). suc (cond b 1 0 + count_below q n)) (sym qn))
      | inr other ↦ (let rest : count_below p n ≡ suc (count_below q n) = count_less p q n t (omega (arith, l, other)) hit miss (λ k kl ne. h k (omega (arith, kl)) ne) in
          ap (λ (b : Bool). cond b 1 0 + count_below p n) (h n (omega arith) (λ (e : n ≡ t). other (sym e))) ∙ plus_suc (cond (q n) 1 0) (count_below p n) (count_below q n) rest)
    ]

cond_le : (b : Bool) → cond b 1 0 ≤ 1
cond_le true = omega arith
cond_le false = omega arith

pub count_le : (p : ℕ → Bool) (n : ℕ) → count_below p n ≤ n
count_le p zero = omega arith
count_le p (suc n) = omega (arith, cond_le (p n), count_le p n)

pub count_all : (p : ℕ → Bool) (n : ℕ) → ((k : ℕ) → k < n → p k ≡ true) → count_below p n ≡ n
count_all p zero h = refl
count_all p (suc n) h =
    let rest : count_below p n ≡ n = count_all p n (λ k l. h k (omega (arith, l))) in
    let more : 1 + count_below p n ≡ suc n = omega (arith, rest) in
    ap (λ (b : Bool). cond b 1 0 + count_below p n) (h n (omega arith)) ∙ more

pub count_yes : (p : ℕ → Bool) (n : ℕ) → p n ≡ true → count_below p n + 1 ≡ count_below p (n + 1)
count_yes p n e =
    let more : count_below p n + 1 ≡ 1 + count_below p n = omega arith in
    let next : suc n ≡ n + 1 = omega arith in
    more ∙ ap (λ (b : Bool). cond b 1 0 + count_below p n) (sym e) ∙ ap (count_below p) next

pub count_no : (p : ℕ → Bool) (n : ℕ) → p n ≡ false → count_below p n ≡ count_below p (n + 1)
count_no p n e =
    let more : count_below p n ≡ 0 + count_below p n = omega arith in
    let next : suc n ≡ n + 1 = omega arith in
    more ∙ ap (λ (b : Bool). cond b 1 0 + count_below p n) (sym e) ∙ ap (count_below p) next

pub any_same : (p q : ℕ → Bool) (n : ℕ) → ((k : ℕ) → k < n → p k ≡ q k) → any_below p n ≡ any_below q n
any_same p q n h =
    same_test (any_below p n) (any_below q n)
    (λ e. let w = any_below_some p n e in any_below_at q n w.0 w.1 (sym (h w.0 w.1) ∙ w.2))
    (λ e. let w = any_below_some q n e in any_below_at p n w.0 w.1 (h w.0 w.1 ∙ w.2))

-- one number more that may pass
pub any_joined : (p q : ℕ → Bool) (n t : ℕ) → t < n → p t ≡ false → ((k : ℕ) → k < n → (k ≡ t → ⊥) → q k ≡ p k) → any_below q n ≡ (any_below p n || q t)
any_joined p q n t l miss h =
    same_test (any_below q n) (any_below p n || q t)
    (λ e. let w = any_below_some q n e in elim (cases_eq w.0 t) [
      | inl here ↦ or_right (any_below p n) (q t) (subst (λ (j : ℕ). q j ≡ true) here w.2)
      | inr other ↦ or_left (any_below p n) (q t) (any_below_at p n w.0 w.1 (sym (h w.0 w.1 other) ∙ w.2))
    ])
    (λ e. elim (or_cases (any_below p n) (q t) e) [
      | inl some ↦ (let w = any_below_some p n some in any_below_at q n w.0 w.1 (h w.0 w.1 (λ (here : w.0 ≡ t). both_ways (p t) miss (subst (λ (j : ℕ). p j ≡ true) here w.2)) ∙ w.2))
      | inr here ↦ any_below_at q n t l here
    ])

or_swap : (x y z : Bool) → (x || (y || z)) ≡ (y || (x || z))
or_swap true true z = refl
or_swap true false z = refl
or_swap false y z = refl

-- one item of a list that did not pass is another
pub list_any_set : {X : Type 0} (p : X → Bool) (xs : List X) (i : ℕ) (x d : X) → i < length xs → p (get_or xs i d) ≡ false → list_any p (set xs i x) ≡ (p x || list_any p xs)
list_any_set p [] i x d l e = absurd (omega (arith, l))
list_any_set p (y ∷ ys) zero x d l e = ap (λ (b : Bool). p x || (b || list_any p ys)) (sym e)
list_any_set p (y ∷ ys) (suc i) x d l e =
    ap (λ (b : Bool). p y || b) (list_any_set p ys i x d (omega (arith, l)) e) ∙ or_swap (p y) (p x) (list_any p ys)

pub list_any_none_of : {X : Type 0} (p : X → Bool) (n : ℕ) (x : X) → p x ≡ false → list_any p (replicate n x) ≡ false
list_any_none_of p zero x e = refl
list_any_none_of p (suc n) x e = or_from (p x) (list_any p (replicate n x)) e (list_any_none_of p n x e)

pub get_or-replicate_any : {X : Type 0} (n i : ℕ) (x : X) → get_or (replicate n x) i x ≡ x
get_or-replicate_any zero i x = refl
get_or-replicate_any (suc n) zero x = refl
get_or-replicate_any (suc n) (suc i) x = get_or-replicate_any n i x

-- tests that agree on the numbers of a list
pub any_listed : (p q : ℕ → Bool) (xs : List ℕ) → ((l : ℕ) → has l xs ≡ true → p l ≡ q l) → list_any p xs ≡ list_any q xs
any_listed p q [] h = refl
any_listed p q (x ∷ xs) h =
    ap (λ (b : Bool). b || list_any p xs) (h x (has_head x xs)) ∙ ap (λ (b : Bool). q x || b) (any_listed p q xs (λ l e. h l (has_tail l x xs e)))

pub first_same : (p q : ℕ → Bool) (s n : ℕ) → ((k : ℕ) → s ≤ k → k < s + n → p k ≡ q k) → first_from p s n ≡ first_from q s n
first_same p q s zero h = refl
first_same p q s (suc n) h =
    ap (λ (b : Bool). cond b (Some s) (first_from p (s + 1) n)) (h s (omega arith) (omega arith))
    ∙ ap (λ (o : Option ℕ). cond (q s) (Some s) o) (first_same p q (s + 1) n (λ k low high. h k (omega (arith, low)) (omega (arith, high))))

-- a number in a list has a place there
pub has_where : (n : ℕ) (xs : List ℕ) → has n xs ≡ true → (k : ℕ) × (k < length xs) × (get_or xs k 0 ≡ n)
has_where n [] e = absurd (false≢true e)
has_where n (x ∷ xs) e =
    elim (or_cases (x == n) (has n xs) e) [
      | inl here ↦ (0, omega arith, eqb-true x n here)
      | inr later ↦ (let w = has_where n xs later in (suc w.0, omega (arith, w.1), w.2))
    ]
