-- Every kept piece's output section has a row in a full placement.
use Rattle.std.specs.Prelude.{◌≡◌, ℕ, zero, suc, Bool, true, false, List, [], ◌∷◌, ◌++◌, ◌+◌, ◌<◌, ◌≤◌, ◌==◌, ◌&&◌, ◌||◌, bytes_eq, if◌then◌else◌, fold, filter, flat_map, map, refl}
use Rattle.std.specs.List.{AllByRecursion, list_any, range_with_len}
use Rattle.std.proofs.Common.{arith, inl, inr, sym, ap, ◌∙◌}
use Rattle.std.proofs.Math.Nat.{eq-or-lt_of_le}
use Rattle.std.proofs.lemmas.Bool.Decides.{nat_tests}
use Rattle.std.proofs.lemmas.List.Folds.{list_any-append}
use Rattle.std.proofs.lemmas.Slice.Eq.{bytes_eq-Decides}
use Rattle.lk_model.specs.SectionKeys.{class_number, same_class, same_key, named}
use Rattle.lk_model.specs.SectionOrder.{section_rank, in_order, each_once, slots_of, table_sizes, existing_keys, section_keys}
use Rattle.lk_model.specs.declared.layouts.Class.{Class}
use Rattle.lk_model.specs.declared.layouts.Class.TheVariants.{R, X, W, WX, Tdata, Tbss, Bss, N}
use Rattle.lk_model.specs.FullPlace.{full_place}
use Rattle.lk_model.specs.Views.{KeptPiece, Resolved}
use Rattle.lk_model.specs.declared.layouts.SectionKey.{SectionKey}
use Rattle.lk_model.specs.declared.layouts.SectionRow.{SectionRow}
use Rattle.lk_model.proofs.Rising.{all_map, all_of_map}
use Rattle.lk_model.proofs.InOrder.{rank_within, full_keys}

-- the class of a number
class_of : ℕ → Class
class_of zero = R
class_of (suc zero) = X
class_of (suc (suc zero)) = W
class_of (suc (suc (suc zero))) = WX
class_of (suc (suc (suc (suc zero)))) = Tdata
class_of (suc (suc (suc (suc (suc zero))))) = Tbss
class_of (suc (suc (suc (suc (suc (suc zero)))))) = Bss
class_of (suc (suc (suc (suc (suc (suc (suc n))))))) = N

class_again : (class : Class) → class_of (class_number class) ≡ class
unfolding class_of
class_again R = refl
class_again X = refl
class_again W = refl
class_again WX = refl
class_again Tdata = refl
class_again Tbss = refl
class_again Bss = refl
class_again N = refl

eq_reports : (a b : ℕ) → (a == b) ≡ true → a ≡ b
eq_reports a b same = grind (arith, nat_tests)

eq_self : (a : ℕ) → (a == a) ≡ true
eq_self a = grind (arith, nat_tests)

first_holds : (a b : Bool) → (a && b) ≡ true → a ≡ true
first_holds true b both = refl
first_holds false b both = both

second_holds : (a b : Bool) → (a && b) ≡ true → b ≡ true
second_holds true b both = both
second_holds false b both = grind (arith, both)

both_hold : (a b : Bool) → a ≡ true → b ≡ true → (a && b) ≡ true
both_hold a b first second = rw first second

-- a key is the same as itself
pub same_key_self : (key : SectionKey) → same_key key key ≡ true
same_key_self key =
    both_hold (same_class key.class key.class) (bytes_eq key.name key.name) (eq_self (class_number key.class)) ((bytes_eq-Decides key.name key.name).1 refl)

-- keys that are the same are one
pub same_key_reports : (a b : SectionKey) → same_key a b ≡ true → a ≡ b
same_key_reports a b same =
    let numbers : class_number a.class ≡ class_number b.class = eq_reports (class_number a.class) (class_number b.class) (first_holds (same_class a.class b.class) (bytes_eq a.name b.name) same) in
    let classes : a.class ≡ b.class = sym (class_again a.class) ∙ (ap class_of numbers ∙ class_again b.class) in
    let names : a.name ≡ b.name = (bytes_eq-Decides a.name b.name).0 (second_holds (same_class a.class b.class) (bytes_eq a.name b.name) same) in
    ap (λ name. named name a.class) names ∙ ap (λ class. named b.name class) classes

-- one of two lists has it
any_left : {A : Type 0} (p : A → Bool) (xs ys : List A) → list_any p xs ≡ true → list_any p (xs ++ ys) ≡ true
any_left p xs ys there = list_any-append p xs ys ∙ rw there refl

pub any_right : {A : Type 0} (p : A → Bool) (xs ys : List A) → list_any p ys ≡ true → list_any p (xs ++ ys) ≡ true
any_right p xs ys there = list_any-append p xs ys ∙ or_true (list_any p xs) there
  where
    or_true : (b : Bool) {c : Bool} → c ≡ true → (b || c) ≡ true
    or_true true e = refl
    or_true false e = e

-- the next key of a list without repeats
abbrev joined : List SectionKey → SectionKey → List SectionKey
joined seen key = if list_any (same_key key) seen then seen else seen ++ key ∷ []

joined_keeps : (p : SectionKey → Bool) (seen : List SectionKey) (key : SectionKey) → list_any p seen ≡ true → list_any p (joined seen key) ≡ true
joined_keeps p seen key there = go (list_any (same_key key) seen) refl
  where
    go : (b : Bool) → list_any (same_key key) seen ≡ b → list_any p (joined seen key) ≡ true
    go true e = rw e there
    go false e = rw e (any_left p seen (key ∷ []) there)

joined_has : (seen : List SectionKey) (key : SectionKey) → list_any (same_key key) (joined seen key) ≡ true
joined_has seen key = go (list_any (same_key key) seen) refl
  where
    go : (b : Bool) → list_any (same_key key) seen ≡ b → list_any (same_key key) (joined seen key) ≡ true
    go true e = rw e e
    go false e = rw e (any_right (same_key key) seen (key ∷ []) (rw (same_key_self key) refl))

folded_keeps : (p : SectionKey → Bool) (seen keys : List SectionKey) → list_any p seen ≡ true → list_any p (fold joined seen keys) ≡ true
folded_keeps p seen [] there = there
folded_keeps p seen (key ∷ keys) there = folded_keeps p (joined seen key) keys (joined_keeps p seen key there)

folded_has : (seen keys : List SectionKey) → AllByRecursion (λ key. list_any (same_key key) (fold joined seen keys) ≡ true) keys
folded_has seen [] = tt
folded_has seen (key ∷ keys) = (folded_keeps (same_key key) (joined seen key) keys (joined_has seen key), folded_has (joined seen key) keys)

-- every key of a list is among those of it without repeats
pub once_has : (keys : List SectionKey) → AllByRecursion (λ key. list_any (same_key key) (each_once keys) ≡ true) keys
once_has keys = folded_has [] keys

-- a key that is among some is among those of its rank
among_its_rank : (key : SectionKey) (keys : List SectionKey) → list_any (same_key key) keys ≡ true → list_any (same_key key) (filter (λ k. section_rank k == section_rank key) keys) ≡ true
among_its_rank key [] there = there
among_its_rank key (first ∷ keys) there = go (same_key key first) (section_rank first == section_rank key) refl refl (among_its_rank key keys)
  where
    go :
        (b c : Bool)
        → same_key key first ≡ b
        → (section_rank first == section_rank key) ≡ c
        → (list_any (same_key key) keys ≡ true → list_any (same_key key) (filter (λ k. section_rank k == section_rank key) keys) ≡ true)
        → list_any (same_key key) (filter (λ k. section_rank k == section_rank key) (first ∷ keys)) ≡ true
    go true c e f rest =
        let same = same_key_reports key first e in
        let ranks : (section_rank first == section_rank key) ≡ true = rw same (eq_self (section_rank first)) in
        rw ranks (rw e refl)
    go false true e f rest = rw f (rw e (rest (rw e at there)))
    go false false e f rest = rw f (rest (rw e at there))

-- a rank of a range
among_ranks :
    (p : SectionKey → Bool) (keys : List SectionKey) (r i n : ℕ)
    → i ≤ r
    → r < i + n
    → list_any p (filter (λ k. section_rank k == r) keys) ≡ true
    → list_any p (flat_map (λ rank. filter (λ k. section_rank k == rank) keys) (range_with_len i n)) ≡ true
among_ranks p keys r i zero low high there = absurd (omega arith)
among_ranks p keys r i (suc n) low high there =
    elim (eq-or-lt_of_le low) [
      | inl here ↦ any_left p (filter (λ k. section_rank k == i) keys) (flat_map (λ rank. filter (λ k. section_rank k == rank) keys) (range_with_len (i + 1) n)) (rw here there)
      | inr later ↦ any_right p (filter (λ k. section_rank k == i) keys) (flat_map (λ rank. filter (λ k. section_rank k == rank) keys) (range_with_len (i + 1) n)) (among_ranks p keys r (i + 1) n (omega arith) (omega arith) there)
    ]

-- and among them in their order
pub in_order_has : (key : SectionKey) (keys : List SectionKey) → list_any (same_key key) keys ≡ true → list_any (same_key key) (in_order keys) ≡ true
unfolding in_order
in_order_has key keys there =
    let within = rank_within key in
    among_ranks (same_key key) keys (section_rank key) 0 31 (omega arith) (omega (arith, within)) (among_its_rank key keys there)

-- every kept piece's output section is among those of the link
pub kept_has_key : (r : Resolved) → AllByRecursion (λ (piece : KeptPiece). list_any (same_key piece.key) (section_keys r) ≡ true) r.kept
unfolding section_keys
kept_has_key r =
    let keys = map (λ (piece : KeptPiece). piece.key) r.kept in
    let tables = map (λ (row : SectionKey × ℕ). row.0) (table_sizes r (slots_of r.needs)) in
    all_map
    (λ (piece : KeptPiece) there. in_order_has piece.key (existing_keys r) (any_left (same_key piece.key) (each_once keys) tables there))
    r.kept
    (all_of_map (λ (piece : KeptPiece). piece.key) (λ key. list_any (same_key key) (each_once keys) ≡ true) r.kept (once_has keys))

-- and has a row in a full placement
pub kept_has_row : (r : Resolved) → AllByRecursion (λ (piece : KeptPiece). list_any (same_key piece.key) (map (λ (row : SectionRow). row.key) (full_place r).sections) ≡ true) r.kept
kept_has_row r = all_map (λ (piece : KeptPiece) there. rw (full_keys r) there) r.kept (kept_has_key r)
