-- A stable sort by rank gives the keys rank by rank.
use Rattle.std.specs.Prelude.{◌≡◌, refl, ℕ, zero, suc, ◌+◌, ◌<◌, ◌≤◌, ◌==◌, Bool, true, false, cond, List, [], ◌∷◌, ◌++◌, filter, flat_map, length, slice_index_or}
use Rattle.std.specs.List.{range_with_len}
use Rattle.std.specs.List.Sorted.{ties, IsNonDecreasingBy, IsStableByKey}
use Rattle.std.specs.Ordering.{is_lt, nat_cmp}
use Rattle.std.proofs.Common.{sym, ap, ◌∙◌, arith, suc-le-suc, zero-le}
use Rattle.std.proofs.lemmas.Bool.Decides.{nat_tests}
use Rattle.lk_model.specs.SectionOrder.{in_order, section_rank}
use Rattle.lk_model.specs.declared.layouts.SectionKey.{SectionKey}
use Rattle.lk_model.proofs.InOrder.{rank_within}

-- the key has the rank
abbrev has : ℕ → SectionKey → Bool
has rank key = section_rank key == rank

-- the keys of the ranks from one on, rank by rank
abbrev from_rank : ℕ → ℕ → List SectionKey → List SectionKey
from_rank a m keys = flat_map (λ rank. filter (has rank) keys) (range_with_len a m)

-- no key has a rank below this one
abbrev AtLeast : ℕ → List SectionKey → Type 0
AtLeast rank [] = Unit {0}
AtLeast rank (key ∷ keys) = (rank ≤ section_rank key) × AtLeast rank keys

-- each key has at least the rank of those before it
abbrev Rises : List SectionKey → Type 0
Rises [] = Unit {0}
Rises (key ∷ keys) = AtLeast (section_rank key) keys × Rises keys

at_least : (rank : ℕ) (keys : List SectionKey) → ((j : ℕ) (d : SectionKey) → j < length keys → rank ≤ section_rank (slice_index_or keys j d)) → AtLeast rank keys
at_least rank [] h = tt
at_least rank (key ∷ keys) h = (h zero key (suc-le-suc zero-le), at_least rank keys (λ j d lt. h (suc j) d (suc-le-suc lt)))

rises : (keys : List SectionKey) → IsNonDecreasingBy section_rank keys → Rises keys
rises [] h = tt
rises (key ∷ keys) h = (
  at_least (section_rank key) keys (λ j d lt. h zero (suc j) d zero-le (suc-le-suc lt)),
  rises keys (λ i j d le lt. h (suc i) (suc j) d (suc-le-suc le) (suc-le-suc lt)),
)

-- ---- the tests of a rank

is_same : (a b : ℕ) → a ≡ b → (a == b) ≡ true
is_same a b e = grind (arith, nat_tests, e)

is_other : (a b : ℕ) → (a ≡ b → ⊥) → (a == b) ≡ false
is_other a b n = grind (arith, nat_tests, n)

reports : (a b : ℕ) → (a == b) ≡ true → a ≡ b
reports a b e = grind (arith, nat_tests)

apart : (a b : ℕ) → (a == b) ≡ false → a ≡ b → ⊥
apart a b e same = grind (arith, nat_tests)

-- ---- keys that rise are their own order

above : (rank : ℕ) (keys : List SectionKey) → AtLeast (suc rank) keys → filter (has rank) keys ≡ []
above rank [] h = refl
above rank (key ∷ keys) h =
    let first = h.0 in
    ap (λ b. cond b (key ∷ filter (has rank) keys) (filter (has rank) keys)) (is_other (section_rank key) rank (λ e. omega (arith, first, e))) ∙ above rank keys h.1

weaker : (a b : ℕ) (keys : List SectionKey) → a ≤ b → AtLeast b keys → AtLeast a keys
weaker a b [] le h = tt
weaker a b (key ∷ keys) le h = let first = h.0 in (omega arith, weaker a b keys le h.1)

-- a key of a lower rank is passed over
passed : (key : SectionKey) (keys : List SectionKey) (a m : ℕ) → section_rank key < a → from_rank a m (key ∷ keys) ≡ from_rank a m keys
passed key keys a zero low = refl
passed key keys a (suc m) low =
    ap (λ b. cond b (key ∷ filter (has a) keys) (filter (has a) keys) ++ from_rank (a + 1) m (key ∷ keys)) (is_other (section_rank key) a (λ e. omega (arith, low, e)))
    ∙ ap (λ rest. filter (has a) keys ++ rest) (passed key keys (a + 1) m (omega arith))

-- a key before all others of its rank and above comes first
first : (key : SectionKey) (keys : List SectionKey) (a m : ℕ) → AtLeast (section_rank key) keys → a ≤ section_rank key → section_rank key < a + m → from_rank a m (key ∷ keys) ≡ key ∷ from_rank a m keys
first key keys a zero rest low high = absurd (omega arith)
first key keys a (suc m) rest low high = go (section_rank key == a) refl (λ later. first key keys (a + 1) m rest (omega (arith, later)) (omega arith))
  where
    go : (b : Bool) → (section_rank key == a) ≡ b → (a < section_rank key → from_rank (a + 1) m (key ∷ keys) ≡ key ∷ from_rank (a + 1) m keys) → from_rank a (suc m) (key ∷ keys) ≡ key ∷ from_rank a (suc m) keys
    go true e later =
        ap (λ b. cond b (key ∷ filter (has a) keys) (filter (has a) keys) ++ from_rank (a + 1) m (key ∷ keys)) e
        ∙ ap (λ others. (key ∷ filter (has a) keys) ++ others) (passed key keys (a + 1) m (let same = reports (section_rank key) a e in omega (arith, same)))
    go false e later =
        let other = apart (section_rank key) a e in
        let none = above a keys (weaker (suc a) (section_rank key) keys (omega (arith, other)) rest) in
        ap (λ b. cond b (key ∷ filter (has a) keys) (filter (has a) keys) ++ from_rank (a + 1) m (key ∷ keys)) e
        ∙ ap (λ here. here ++ from_rank (a + 1) m (key ∷ keys)) none
        ∙ later (omega (arith, other))
        ∙ ap (λ here. key ∷ (here ++ from_rank (a + 1) m keys)) (sym none)

in_place : (keys : List SectionKey) → Rises keys → from_rank 0 31 keys ≡ keys
in_place [] h = nothing 0 31
  where
    nothing : (a m : ℕ) → from_rank a m [] ≡ []
    nothing a zero = refl
    nothing a (suc m) = nothing (a + 1) m
in_place (key ∷ keys) h = first key keys 0 31 h.0 (omega arith) (rank_within key) ∙ ap (λ rest. key ∷ rest) (in_place keys h.1)

-- ---- keys of one rank keep their order

ties_are : (m n : ℕ) → ties (λ x y. is_lt (nat_cmp x y)) m n ≡ (n == m)
ties_are m n = grind (arith, nat_tests)

same_test : (p q : SectionKey → Bool) (keys : List SectionKey) → ((key : SectionKey) → p key ≡ q key) → filter p keys ≡ filter q keys
same_test p q [] h = refl
same_test p q (key ∷ keys) h =
    ap (λ b. cond b (key ∷ filter p keys) (filter p keys)) (h key) ∙ ap (λ rest. cond (q key) (key ∷ rest) rest) (same_test p q keys h)

kept_at : (key : SectionKey) (xs ys : List SectionKey) → IsStableByKey section_rank nat_cmp xs ys → filter (has (section_rank key)) ys ≡ filter (has (section_rank key)) xs
kept_at key xs ys stable =
    let test = λ (other : SectionKey). ties_are (section_rank key) (section_rank other) in
    let p : SectionKey → Bool = ties (λ x y. is_lt (nat_cmp (section_rank x) (section_rank y))) key in
    sym (same_test p (has (section_rank key)) ys test) ∙ stable key ∙ same_test p (has (section_rank key)) xs test

-- a key that is among those of a rank has it
found : (rank : ℕ) (keys : List SectionKey) (key : SectionKey) (rest : List SectionKey) → filter (has rank) keys ≡ key ∷ rest → section_rank key ≡ rank
found rank [] key rest e = absurd (cc)
found rank (k ∷ keys) key rest e = go (has rank k) refl (λ later. found rank keys key rest later)
  where
    go : (b : Bool) → has rank k ≡ b → (filter (has rank) keys ≡ key ∷ rest → section_rank key ≡ rank) → section_rank key ≡ rank
    go true t later =
        let e' : k ∷ filter (has rank) keys ≡ key ∷ rest = sym (ap (λ b. cond b (k ∷ filter (has rank) keys) (filter (has rank) keys)) t) ∙ e in
        let same : k ≡ key = cc in ap section_rank (sym same) ∙ reports (section_rank k) rank t
    go false t later = later (sym (ap (λ b. cond b (k ∷ filter (has rank) keys) (filter (has rank) keys)) t) ∙ e)

kept : (rank : ℕ) (xs ys : List SectionKey) → IsStableByKey section_rank nat_cmp xs ys → filter (has rank) ys ≡ filter (has rank) xs
kept rank xs ys stable = go (filter (has rank) ys) refl
  where
    at : (key : SectionKey) → section_rank key ≡ rank → filter (has rank) ys ≡ filter (has rank) xs
    at key e = ap (λ r. filter (has r) ys) (sym e) ∙ kept_at key xs ys stable ∙ ap (λ r. filter (has r) xs) e

    none : (zs : List SectionKey) → filter (has rank) xs ≡ zs → filter (has rank) ys ≡ [] → filter (has rank) ys ≡ filter (has rank) xs
    none [] f e = e ∙ sym f
    none (key ∷ rest) f e = at key (found rank xs key rest f)

    go : (zs : List SectionKey) → filter (has rank) ys ≡ zs → filter (has rank) ys ≡ filter (has rank) xs
    go [] e = none (filter (has rank) xs) refl e
    go (key ∷ rest) e = at key (found rank ys key rest e)

kept_from : (a m : ℕ) (xs ys : List SectionKey) → IsStableByKey section_rank nat_cmp xs ys → from_rank a m ys ≡ from_rank a m xs
kept_from a zero xs ys stable = refl
kept_from a (suc m) xs ys stable =
    ap (λ here. here ++ from_rank (a + 1) m ys) (kept a xs ys stable) ∙ ap (λ rest. filter (has a) xs ++ rest) (kept_from (a + 1) m xs ys stable)

-- keys that were sorted by rank, with ties in their order, are in the order of the image
pub sorted_in_order : (xs ys : List SectionKey) → IsNonDecreasingBy section_rank ys → IsStableByKey section_rank nat_cmp xs ys → ys ≡ in_order xs
unfolding in_order
sorted_in_order xs ys up stable = sym (in_place ys (rises ys up)) ∙ kept_from 0 31 xs ys stable
