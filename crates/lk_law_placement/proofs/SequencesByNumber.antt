-- The pieces of an array of functions, by number: those before a piece, the piece and those after it.
use Rattle.std.specs.Prelude.{◌≡◌, ℕ, Bool, true, false, List, [], ◌∷◌, ◌++◌, ◌<◌, ◌≤◌, ◌==◌, nat_lt, fold, filter, take_while, refl}
use Rattle.std.specs.List.{AllByRecursion}
use Rattle.std.proofs.Common.{arith, sym, ap, ◌∙◌}
use Rattle.std.proofs.lemmas.Bool.{eqb-true, le-ltb, lt-ltb, ltb-false, ltb-true, ne_eqb}
use Rattle.std.proofs.lemmas.Bool.Decides.{nat_tests}
use Rattle.std.proofs.lemmas.List.{append-nil, append_assoc}
use Rattle.std.proofs.lemmas.List.Elements.{filter-append}
use Rattle.std.proofs.lemmas.List.Sums.{take_while-cons}
use Rattle.lk_model.specs.Rooms.{array_rank, by_number, put_by_number, sequence_of}
use Rattle.lk_model.specs.Views.{KeptPiece}
use Rattle.lk_model.proofs.Rising.{all_filter, all_map}
use Rattle.lk_law_placement.proofs.PiecesLists.{none_pass}
use Rattle.lk_law_placement.proofs.SequencesSorted.{Ordered, differs_above, is_above, is_below, is_of, put_all, put_among, put_ordered}

-- ---- all pieces, put one by one

folded_ordered : (sorted pieces : List KeptPiece) → Ordered sorted → Ordered (fold put_by_number sorted pieces)
folded_ordered sorted [] ordered = ordered
folded_ordered sorted (piece ∷ pieces) ordered = folded_ordered (put_by_number sorted piece) pieces (put_ordered sorted piece ordered)

folded_among : (rank : ℕ) (sorted pieces : List KeptPiece) → Ordered sorted → filter (is_of rank) (fold put_by_number sorted pieces) ≡ filter (is_of rank) sorted ++ filter (is_of rank) pieces
folded_among rank sorted [] ordered = sym (append-nil (filter (is_of rank) sorted))
folded_among rank sorted (piece ∷ pieces) ordered =
    folded_among rank (put_by_number sorted piece) pieces (put_ordered sorted piece ordered)
    ∙ (ap (λ xs. xs ++ filter (is_of rank) pieces) (put_among rank sorted piece ordered)
    ∙ (append_assoc (filter (is_of rank) sorted) (filter (is_of rank) (piece ∷ [])) (filter (is_of rank) pieces)
    ∙ ap (λ xs. filter (is_of rank) sorted ++ xs) (sym (filter-append (is_of rank) (piece ∷ []) pieces))))

folded_all : (P : KeptPiece → Type 0) (sorted pieces : List KeptPiece) → AllByRecursion P sorted → AllByRecursion P pieces → AllByRecursion P (fold put_by_number sorted pieces)
folded_all P sorted [] before all = before
folded_all P sorted (piece ∷ pieces) before all = folded_all P (put_by_number sorted piece) pieces (put_all P sorted piece before all.0) all.1

pub by_number_ordered : (pieces : List KeptPiece) → Ordered (by_number pieces)
by_number_ordered pieces = folded_ordered [] pieces tt

pub by_number_among : (rank : ℕ) (pieces : List KeptPiece) → filter (is_of rank) (by_number pieces) ≡ filter (is_of rank) pieces
by_number_among rank pieces = folded_among rank [] pieces tt

-- what holds of all pieces holds of them in a sequence
pub sequence_all : (P : KeptPiece → Type 0) (numbered : Bool) (pieces : List KeptPiece) → AllByRecursion P pieces → AllByRecursion P (sequence_of numbered pieces)
sequence_all P false pieces all = all
sequence_all P true pieces all = folded_all P [] pieces tt all

-- ---- a list by rising number falls into three

pub ordered_filter : (test : KeptPiece → Bool) (pieces : List KeptPiece) → Ordered pieces → Ordered (filter test pieces)
ordered_filter test [] ordered = tt
ordered_filter test (piece ∷ pieces) ordered = go (test piece) refl (ordered_filter test pieces ordered.1)
  where
    go : (b : Bool) → test piece ≡ b → Ordered (filter test pieces) → Ordered (filter test (piece ∷ pieces))
    go true e rest = rw e (all_filter (λ other. array_rank piece ≤ array_rank other) test pieces ordered.0, rest)
    go false e rest = rw e rest

differs_below : (n rank : ℕ) → n < rank → (n == rank) ≡ false
differs_below n rank below = ne_eqb n rank (λ same. omega (arith, same, below))

-- what is neither below nor the same is above
left_above : (n rank : ℕ) → nat_lt n rank ≡ false → (n == rank) ≡ false → rank < n
left_above n rank not_below other = grind (arith, nat_tests, not_below, other)

-- none of those after a number is below one that is not above it
none_below : (rank n : ℕ) (pieces : List KeptPiece) → rank ≤ n → AllByRecursion (λ other. n ≤ array_rank other) pieces → filter (is_below rank) pieces ≡ []
none_below rank n pieces above all = none_pass (is_below rank) pieces (all_map (λ other (low : n ≤ array_rank other). le-ltb (array_rank other) rank (omega (arith, above, low))) pieces all)

none_of : (rank n : ℕ) (pieces : List KeptPiece) → rank < n → AllByRecursion (λ other. n ≤ array_rank other) pieces → filter (is_of rank) pieces ≡ []
none_of rank n pieces above all = none_pass (is_of rank) pieces (all_map (λ other (low : n ≤ array_rank other). differs_above (array_rank other) rank (omega (arith, above, low))) pieces all)

-- those below, of and above a number
abbrev pub in_three : ℕ → List KeptPiece → List KeptPiece
in_three rank pieces = filter (is_below rank) pieces ++ (filter (is_of rank) pieces ++ filter (is_above rank) pieces)

pub ordered_in_three : (rank : ℕ) (pieces : List KeptPiece) → Ordered pieces → pieces ≡ in_three rank pieces
ordered_in_three rank [] ordered = refl
ordered_in_three rank (piece ∷ pieces) ordered = go (is_below rank piece) (is_of rank piece) refl refl (ordered_in_three rank pieces ordered.1)
  where
    go : (b c : Bool) → is_below rank piece ≡ b → is_of rank piece ≡ c → pieces ≡ in_three rank pieces → piece ∷ pieces ≡ in_three rank (piece ∷ pieces)
    go true c e f rest =
        let below = ltb-true (array_rank piece) rank e in
        let not_of : is_of rank piece ≡ false = differs_below (array_rank piece) rank below in
        let not_above : is_above rank piece ≡ false = le-ltb rank (array_rank piece) (omega (arith, below)) in
        rw e (rw not_of (rw not_above (ap (λ xs. piece ∷ xs) rest)))
    go false true e f rest =
        let same = eqb-true (array_rank piece) rank f in
        let not_above : is_above rank piece ≡ false = le-ltb rank (array_rank piece) (omega (arith, same)) in
        let none = none_below rank (array_rank piece) pieces (omega (arith, same)) ordered.0 in
        let others : pieces ≡ filter (is_of rank) pieces ++ filter (is_above rank) pieces = rest ∙ ap (λ xs. xs ++ (filter (is_of rank) pieces ++ filter (is_above rank) pieces)) none in
        rw e (rw f (rw not_above (ap (λ xs. piece ∷ xs) others ∙ ap (λ xs. xs ++ (piece ∷ (filter (is_of rank) pieces ++ filter (is_above rank) pieces))) (sym none))))
    go false false e f rest =
        let above = left_above (array_rank piece) rank e f in
        let is : is_above rank piece ≡ true = lt-ltb rank (array_rank piece) above in
        let none = none_below rank (array_rank piece) pieces (omega (arith, above)) ordered.0 in
        let none_there = none_of rank (array_rank piece) pieces above ordered.0 in
        let others : pieces ≡ filter (is_above rank) pieces =
        rest
        ∙ (ap (λ xs. xs ++ (filter (is_of rank) pieces ++ filter (is_above rank) pieces)) none
        ∙ ap (λ xs. xs ++ filter (is_above rank) pieces) none_there) in
        rw e (rw f (rw is (ap (λ xs. piece ∷ xs) others
        ∙ (ap (λ xs. xs ++ (piece ∷ filter (is_above rank) pieces)) (sym none_there)
        ∙ ap (λ xs. xs ++ (filter (is_of rank) pieces ++ piece ∷ filter (is_above rank) pieces)) (sym none)))))

-- the front of a list by rising number that is below a number is all of it that is
pub front_below : (rank : ℕ) (pieces : List KeptPiece) → Ordered pieces → take_while (is_below rank) pieces ≡ filter (is_below rank) pieces
front_below rank [] ordered = refl
front_below rank (piece ∷ pieces) ordered = go (is_below rank piece) refl (front_below rank pieces ordered.1)
  where
    go : (b : Bool) → is_below rank piece ≡ b → take_while (is_below rank) pieces ≡ filter (is_below rank) pieces → take_while (is_below rank) (piece ∷ pieces) ≡ filter (is_below rank) (piece ∷ pieces)
    go true e rest = take_while-cons (is_below rank) piece pieces ∙ rw e (ap (λ xs. piece ∷ xs) rest)
    go false e rest =
        let above = ltb-false (array_rank piece) rank e in
        take_while-cons (is_below rank) piece pieces ∙ rw e (sym (none_below rank (array_rank piece) pieces above ordered.0))
