-- The ranks of ordered sections do not fall, and the rank of a section lies between bounds of its class.
use Rattle.std.specs.Prelude.{◌≡◌, ℕ, zero, suc, Bool, true, false, List, [], ◌∷◌, ◌+◌, ◌<◌, ◌≤◌, ◌==◌, cond, if◌then◌else◌, codes, bytes_eq, filter, flat_map, length, map, refl}
use Rattle.std.specs.List.{AllByRecursion, list_any, range_with_len}
use Rattle.std.proofs.Common.{arith, subst}
use Rattle.std.proofs.lemmas.Bool.{both_ways, eqb-true}
use Rattle.lk_model.specs.Lawful.{Pairs}
use Rattle.lk_model.specs.SectionKeys.{is_note}
use Rattle.lk_model.specs.SectionOrder.{section_rank, rank_in, first_rank, in_order, writable_rank, place_in, names_after_notes, executable_names, names_before_others, names_after_others}
use Rattle.lk_model.specs.declared.layouts.Class.{Class}
use Rattle.lk_model.specs.declared.layouts.Class.TheVariants.{R, X, W, WX, Tdata, Tbss, Bss, N}
use Rattle.lk_model.specs.declared.layouts.SectionKey.{SectionKey}
use Rattle.lk_model.specs.declared.layouts.SectionRow.{SectionRow}
use Rattle.lk_model.proofs.Rising.{all_map, all_pass}
use Rattle.lk_law_placement.proofs.DistinctLists.{all_joined}
use Rattle.lk_law_loading.proofs.PairsInOrder.{pairs_joined, pairs_of_all, pairs_of_map}

abbrev has_rank : ℕ → SectionKey → Bool
has_rank rank key = section_rank key == rank

abbrev by_rank : ℕ → ℕ → List SectionKey → List SectionKey
by_rank i n keys = flat_map (λ rank. filter (has_rank rank) keys) (range_with_len i n)

-- the keys of one rank
of_rank : (i : ℕ) (keys : List SectionKey) → AllByRecursion (λ key. section_rank key ≡ i) (filter (has_rank i) keys)
of_rank i keys = all_map (λ key at. eqb-true (section_rank key) i at) (filter (has_rank i) keys) (all_pass (has_rank i) keys)

-- keys of ranks from one on have no lower rank
ranks_from : (i n : ℕ) (keys : List SectionKey) → AllByRecursion (λ key. i ≤ section_rank key) (by_rank i n keys)
ranks_from i zero keys = tt
ranks_from i (suc n) keys =
    all_joined (λ key. i ≤ section_rank key) (filter (has_rank i) keys) (by_rank (i + 1) n keys)
    (all_map (λ key at. omega (arith, at)) (filter (has_rank i) keys) (of_rank i keys))
    (all_map (λ key from. omega (arith, from)) (by_rank (i + 1) n keys) (ranks_from (i + 1) n keys))

-- one key's rank is not above another's
abbrev pub NotBelow : SectionKey → SectionKey → Type 0
NotBelow a b = section_rank a ≤ section_rank b

ranks_in_turn : (i n : ℕ) (keys : List SectionKey) → Pairs NotBelow (by_rank i n keys)
ranks_in_turn i zero keys = tt
ranks_in_turn i (suc n) keys =
    let later = ranks_from (i + 1) n keys in
    pairs_joined NotBelow (filter (has_rank i) keys) (by_rank (i + 1) n keys)
    (pairs_of_all (λ key. section_rank key ≡ i) NotBelow (λ a b at on. omega (arith, at, on)) (filter (has_rank i) keys) (of_rank i keys))
    (all_map (λ a at. all_map (λ b from. omega (arith, at, from)) (by_rank (i + 1) n keys) later) (filter (has_rank i) keys) (of_rank i keys))
    (ranks_in_turn (i + 1) n keys)

-- ranks of ordered keys do not fall
pub ordered_ranks : (keys : List SectionKey) → in_order keys ≡ keys → Pairs NotBelow keys
unfolding in_order
ordered_ranks keys ordered = subst (Pairs NotBelow) ordered (ranks_in_turn 0 31 keys)

-- nor do those of rows in their order
pub row_ranks :
    (rows : List SectionRow)
    → in_order (map (λ (row : SectionRow). row.key) rows) ≡ map (λ (row : SectionRow). row.key) rows
    → Pairs (λ (a b : SectionRow). section_rank a.key ≤ section_rank b.key) rows
row_ranks rows ordered =
    pairs_of_map (λ (row : SectionRow). row.key) NotBelow rows (ordered_ranks (map (λ (row : SectionRow). row.key) rows) ordered)

-- ---- ranks by classes

-- the least and the greatest rank of a class
abbrev pub least_rank : Class → ℕ
least_rank R = 0
least_rank X = 11
least_rank Tdata = 16
least_rank Tbss = 17
least_rank W = 18
least_rank WX = 23
least_rank Bss = 28
least_rank N = 30

abbrev pub greatest_rank : Class → ℕ
greatest_rank R = 10
greatest_rank X = 15
greatest_rank Tdata = 16
greatest_rank Tbss = 17
greatest_rank W = 27
greatest_rank WX = 23
greatest_rank Bss = 29
greatest_rank N = 30

-- a choice lies between bounds where both answers do
between : (b : Bool) (x y low high : ℕ) → (low ≤ x) × (x ≤ high) → (low ≤ y) × (y ≤ high) → (low ≤ cond b x y) × (cond b x y ≤ high)
between true x y low high first second = first
between false x y low high first second = second

-- a name's place in a list is at most the list's length
place_within : (names : List (List ℕ)) (name : List ℕ) → place_in names name ≤ length names
place_within [] name = omega arith
place_within (first ∷ names) name = go (bytes_eq name first) refl (place_within names name)
  where
    go : (b : Bool) → bytes_eq name first ≡ b → place_in names name ≤ length names → place_in (first ∷ names) name ≤ length (first ∷ names)
    go true e rest = rw e (omega arith)
    go false e rest = rw e (omega (arith, rest))

-- and below it where the name is there
place_below : (names : List (List ℕ)) (name : List ℕ) → list_any (bytes_eq name) names ≡ true → place_in names name < length names
place_below [] name there = absurd (both_ways false refl there)
place_below (first ∷ names) name there = go (bytes_eq name first) refl (place_below names name)
  where
    go :
        (b : Bool)
        → bytes_eq name first ≡ b
        → (list_any (bytes_eq name) names ≡ true → place_in names name < length names)
        → place_in (first ∷ names) name < length (first ∷ names)
    go true e rest = rw e (omega arith)
    go false e rest = let later = rest (rw e at there) in rw e (omega (arith, later))

abbrev Within : Class → ℕ → Type 0
Within class rank = (least_rank class ≤ rank) × (rank ≤ greatest_rank class)

first_within : (key : SectionKey) → Within R (first_rank key)
first_within key =
    let place = place_within names_after_notes key.name in
    between (bytes_eq key.name (codes ".interp")) 0 (if is_note key then 1 else 2 + place_in names_after_notes key.name) 0 10 (omega arith, omega arith)
    (between (is_note key) 1 (2 + place_in names_after_notes key.name) 0 10 (omega arith, omega arith) (omega arith, omega (arith, place)))

writable_within : (name : List ℕ) → Within W (writable_rank name)
writable_within name = go (list_any (bytes_eq name) names_after_others) refl
  where
    go : (b : Bool) → list_any (bytes_eq name) names_after_others ≡ b → Within W (writable_rank name)
    go true e = let place = place_below names_after_others name e in rw e (omega (arith, place), omega (arith, place))
    go false e = let place = place_within names_before_others name in rw e (omega (arith, place), omega (arith, place))

class_within : (class : Class) (key : SectionKey) → Within class (rank_in class key)
class_within R key = first_within key
class_within X key = let place = place_within executable_names key.name in (omega (arith, place), omega (arith, place))
class_within Tdata key = (omega arith, omega arith)
class_within Tbss key = (omega arith, omega arith)
class_within W key = writable_within key.name
class_within WX key = (omega arith, omega arith)
class_within Bss key = between (bytes_eq key.name (codes ".bss")) 28 29 28 29 (omega arith, omega arith) (omega arith, omega arith)
class_within N key = (omega arith, omega arith)

-- a section's rank lies between the bounds of its class
pub rank_within_class : (key : SectionKey) → (least_rank key.class ≤ section_rank key) × (section_rank key ≤ greatest_rank key.class)
unfolding section_rank
rank_within_class key = class_within key.class key
