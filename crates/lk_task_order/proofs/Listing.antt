-- Numbers in lists that grow, and lists of numbers that are written one place after another.
use Rattle.std.proofs.Common.{◌≡◌, ℕ, zero, suc, ◌+◌, ◌==◌, ◌<◌, Bool, true, false, ◌&&◌, ◌||◌, cond, List, [], ◌∷◌, ◌++◌, length, get_or, set, drop, refl, sym, ap, ◌∙◌, subst, inl, inr, arith}
use Rattle.std.specs.List.{list_any, list_all}
use Rattle.std.proofs.lemmas.Bool.{false≢true, or_cases, or_left, or_right, and_parts, and_from, eqb-true, eq-eqb, ne_eqb, cases_eq, cases_Bool}
use Rattle.std.proofs.lemmas.List.{get_or-set_same, get_or-set_other, at_drop_more}
use Rattle.lk_task_runs.specs.Below.{has}
use Rattle.lk_task_runs.proofs.NumbersBelow.{has_head, has_tail}

pub or_assoc : (x y z : Bool) → ((x || y) || z) ≡ (x || (y || z))
or_assoc true y z = refl
or_assoc false y z = refl

pub has_at : (xs : List ℕ) (i : ℕ) → i < length xs → has (get_or xs i 0) xs ≡ true
has_at [] i l = absurd (omega (arith, l))
has_at (x ∷ xs) zero l = has_head x xs
has_at (x ∷ xs) (suc i) l = has_tail (get_or xs i 0) x xs (has_at xs i (omega (arith, l)))

pub has_append : (t : ℕ) (xs ys : List ℕ) → has t (xs ++ ys) ≡ (has t xs || has t ys)
has_append t [] ys = refl
has_append t (x ∷ xs) ys = ap (λ (b : Bool). x == t || b) (has_append t xs ys) ∙ sym (or_assoc (x == t) (has t xs) (has t ys))

-- a list that grows by what one more place gives
pub grown_more : (a b rest all : Bool) → (a || (b || rest)) ≡ all → ((a || b) || rest) ≡ all
grown_more a b rest all e = or_assoc a b rest ∙ e

noted_here : (a b r q : Bool) → q ≡ true → ((a || (b || false)) || (b && r)) ≡ (a || (b && (q || r)))
noted_here true b r q e = refl
noted_here false true r true e = refl
noted_here false true r false e = absurd (false≢true e)
noted_here false false r q e = refl

noted_there : (a b r q : Bool) → q ≡ false → (a || (b && r)) ≡ (a || (b && (q || r)))
noted_there a b r true e = absurd (false≢true (sym e))
noted_there a b r false e = refl

-- one reader more of one slot
pub noted_more : (rs : List (List ℕ)) (x m t u : ℕ) (rest : Bool) → x < length rs → (has t (get_or (set rs x (get_or rs x [] ++ u ∷ [])) m []) || (u == t && rest)) ≡ (has t (get_or rs m []) || (u == t && (x == m || rest)))
noted_more rs x m t u rest l =
    elim (cases_eq m x) [
      | inl e ↦ (let here : has t (get_or (set rs x (get_or rs x [] ++ u ∷ [])) m []) ≡ (has t (get_or rs m []) || (u == t || false)) =
          ap (λ (j : ℕ). has t (get_or (set rs x (get_or rs x [] ++ u ∷ [])) j [])) e ∙ ap (λ (ys : List ℕ). has t ys) (get_or-set_same rs x (get_or rs x [] ++ u ∷ []) [] l)
          ∙ has_append t (get_or rs x []) (u ∷ []) ∙ ap (λ (j : ℕ). has t (get_or rs j []) || (u == t || false)) (sym e) in
          ap (λ (b : Bool). b || (u == t && rest)) here ∙ noted_here (has t (get_or rs m [])) (u == t) rest (x == m) (eq-eqb x m (sym e)))
      | inr o ↦ ap (λ (ys : List ℕ). has t ys || (u == t && rest)) (get_or-set_other rs x m (get_or rs x [] ++ u ∷ []) [] o)
          ∙ noted_there (has t (get_or rs m [])) (u == t) rest (x == m) (ne_eqb x m (λ (q : x ≡ m). o (sym q)))
    ]

cond_same : {X : Type 0} (b : Bool) (x : X) → cond b x x ≡ x
cond_same true x = refl
cond_same false x = refl

-- one place more is written
pub written_more : {X : Type 0} (ws : List X) (x m : ℕ) (v d : X) (rest : Bool) → x < length ws → cond rest v (get_or (set ws x v) m d) ≡ cond (x == m || rest) v (get_or ws m d)
written_more {X} ws x m v d rest l =
    elim (cases_eq m x) [
      | inl e ↦ ap (λ (j : ℕ). cond rest v (get_or (set ws x v) j d)) e ∙ ap (λ (y : X). cond rest v y) (get_or-set_same ws x v d l) ∙ cond_same rest v
          ∙ ap (λ (b : Bool). cond (b || rest) v (get_or ws m d)) (sym (eq-eqb x m (sym e)))
      | inr o ↦ ap (λ (y : X). cond rest v y) (get_or-set_other ws x m v d o) ∙ ap (λ (b : Bool). cond (b || rest) v (get_or ws m d)) (sym (ne_eqb x m (λ (q : x ≡ m). o (sym q))))
    ]

pub has_more : (xs : List ℕ) (i n : ℕ) → i < length xs → has n (drop i xs) ≡ (get_or xs i 0 == n || has n (drop (i + 1) xs))
has_more xs i n l = at_drop_more (has n) xs i 0 l

pub any_more : (p : ℕ → Bool) (xs : List ℕ) (i : ℕ) → i < length xs → list_any p (drop i xs) ≡ (p (get_or xs i 0) || list_any p (drop (i + 1) xs))
any_more p xs i l = at_drop_more (list_any p) xs i 0 l

-- a number in a list that passes
pub any_some : (p : ℕ → Bool) (xs : List ℕ) → list_any p xs ≡ true → (m : ℕ) × (has m xs ≡ true) × (p m ≡ true)
any_some p [] e = absurd (false≢true e)
any_some p (x ∷ xs) e =
    elim (or_cases (p x) (list_any p xs) e) [
      | inl here ↦ (x, has_head x xs, here)
      | inr later ↦ (let w = any_some p xs later in (w.0, has_tail w.0 x xs w.1, w.2))
    ]

pub any_at : (p : ℕ → Bool) (xs : List ℕ) (m : ℕ) → has m xs ≡ true → p m ≡ true → list_any p xs ≡ true
any_at p [] m h e = absurd (false≢true h)
any_at p (x ∷ xs) m h e =
    elim (or_cases (x == m) (has m xs) h) [
      | inl here ↦ or_left (p x) (list_any p xs) (subst (λ (j : ℕ). p j ≡ true) (sym (eqb-true x m here)) e)
      | inr later ↦ or_right (p x) (list_any p xs) (any_at p xs m later e)
    ]

-- where not all of a list pass, one does not
pub all_not : (p : ℕ → Bool) (xs : List ℕ) → list_all p xs ≡ false → (m : ℕ) × (has m xs ≡ true) × (p m ≡ false)
all_not p [] e = absurd (false≢true (sym e))
all_not p (x ∷ xs) e =
    elim (cases_Bool (p x)) [
      | inl passes ↦ (let w = all_not p xs (sym (ap (λ (b : Bool). b && list_all p xs) passes) ∙ e) in (w.0, has_tail w.0 x xs w.1, w.2))
      | inr here ↦ (x, has_head x xs, here)
    ]

pub all_at_listed : (p : ℕ → Bool) (xs : List ℕ) (m : ℕ) → list_all p xs ≡ true → has m xs ≡ true → p m ≡ true
all_at_listed p [] m e h = absurd (false≢true h)
all_at_listed p (x ∷ xs) m e h =
    let parts = and_parts (p x) (list_all p xs) e in
    elim (or_cases (x == m) (has m xs) h) [
      | inl here ↦ subst (λ (j : ℕ). p j ≡ true) (eqb-true x m here) parts.0
      | inr later ↦ all_at_listed p xs m parts.1 later
    ]

pub all_listed : (p : ℕ → Bool) (xs : List ℕ) → ((m : ℕ) → has m xs ≡ true → p m ≡ true) → list_all p xs ≡ true
all_listed p [] h = refl
all_listed p (x ∷ xs) h = and_from (p x) (list_all p xs) (h x (has_head x xs)) (all_listed p xs (λ m e. h m (has_tail m x xs e)))

-- tests that agree on the numbers of a list
pub all_same : (p q : ℕ → Bool) (xs : List ℕ) → ((m : ℕ) → has m xs ≡ true → p m ≡ q m) → list_all p xs ≡ list_all q xs
all_same p q [] h = refl
all_same p q (x ∷ xs) h =
    ap (λ (b : Bool). b && list_all p xs) (h x (has_head x xs)) ∙ ap (λ (b : Bool). q x && b) (all_same p q xs (λ m e. h m (has_tail m x xs e)))

pub has_where : (n : ℕ) (xs : List ℕ) → has n xs ≡ true → (k : ℕ) × (k < length xs) × (get_or xs k 0 ≡ n)
has_where n [] e = absurd (false≢true e)
has_where n (x ∷ xs) e =
    elim (or_cases (x == n) (has n xs) e) [
      | inl here ↦ (0, omega arith, eqb-true x n here)
      | inr later ↦ (let w = has_where n xs later in (suc w.0, omega (arith, w.1), w.2))
    ]
