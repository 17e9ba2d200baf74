-- Pieces by number: a list by rising number falls into those below a number, those of it and those above
-- it, and those of one number keep the order in which they were added.
use Rattle.std.specs.Prelude.{◌≡◌, ℕ, suc, Bool, true, false, List, [], ◌∷◌, ◌++◌, ◌+◌, ◌<◌, ◌≤◌, ◌==◌, nat_le, nat_lt, drop, filter, take_while, refl}
use Rattle.std.specs.List.{AllByRecursion, prefix_len}
use Rattle.std.proofs.Common.{arith, sym, ap, ◌∙◌}
use Rattle.std.proofs.lemmas.Bool.{eqb-true, leb-false, leb-true, ne_eqb}
use Rattle.std.proofs.lemmas.List.{append-nil}
use Rattle.std.proofs.lemmas.List.Sums.{take_while-cons}
use Rattle.lk_model.specs.Rooms.{array_rank, put_by_number}
use Rattle.lk_model.specs.Views.{KeptPiece}
use Rattle.lk_model.proofs.Rising.{all_map}
use Rattle.lk_law_placement.proofs.PiecesLists.{none_pass}

-- a piece's number is below, is, or is above this one
abbrev pub is_below : ℕ → KeptPiece → Bool
is_below rank piece = nat_lt (array_rank piece) rank

abbrev pub is_of : ℕ → KeptPiece → Bool
is_of rank piece = array_rank piece == rank

abbrev pub is_above : ℕ → KeptPiece → Bool
is_above rank piece = nat_lt rank (array_rank piece)

-- numbers do not fall
abbrev pub Ordered : List KeptPiece → Type 0
Ordered [] = Unit {0}
Ordered (piece ∷ pieces) = AllByRecursion (λ other. array_rank piece ≤ array_rank other) pieces × Ordered pieces

-- ---- a piece is put behind those with a number that is not above its own

drop_next : (n : ℕ) (piece : KeptPiece) (pieces : List KeptPiece) → drop (1 + n) (piece ∷ pieces) ≡ drop n pieces
drop_next n piece pieces = let next : 1 + n ≡ suc n = omega arith in rw next refl

put_later : (first : KeptPiece) (sorted : List KeptPiece) (piece : KeptPiece) → nat_le (array_rank first) (array_rank piece) ≡ true → put_by_number (first ∷ sorted) piece ≡ first ∷ put_by_number sorted piece
put_later first sorted piece low =
    let test : KeptPiece → Bool = λ other. nat_le (array_rank other) (array_rank piece) in
    let taken : take_while test (first ∷ sorted) ≡ first ∷ take_while test sorted = take_while-cons test first sorted ∙ rw low refl in
    let count : prefix_len test (first ∷ sorted) ≡ 1 + prefix_len test sorted = rw low refl in
    let left : drop (prefix_len test (first ∷ sorted)) (first ∷ sorted) ≡ drop (prefix_len test sorted) sorted =
    ap (λ n. drop n (first ∷ sorted)) count ∙ drop_next (prefix_len test sorted) first sorted in
    ap (λ xs. xs ++ piece ∷ drop (prefix_len test (first ∷ sorted)) (first ∷ sorted)) taken
    ∙ ap (λ xs. (first ∷ take_while test sorted) ++ piece ∷ xs) left

put_here : (first : KeptPiece) (sorted : List KeptPiece) (piece : KeptPiece) → nat_le (array_rank first) (array_rank piece) ≡ false → put_by_number (first ∷ sorted) piece ≡ piece ∷ first ∷ sorted
put_here first sorted piece high =
    let test : KeptPiece → Bool = λ other. nat_le (array_rank other) (array_rank piece) in
    let taken : take_while test (first ∷ sorted) ≡ [] = take_while-cons test first sorted ∙ rw high refl in
    let count : prefix_len test (first ∷ sorted) ≡ 0 = rw high refl in
    ap (λ xs. xs ++ piece ∷ drop (prefix_len test (first ∷ sorted)) (first ∷ sorted)) taken
    ∙ ap (λ n. piece ∷ drop n (first ∷ sorted)) count

-- what is greater differs
pub differs_above : (n rank : ℕ) → rank < n → (n == rank) ≡ false
differs_above n rank above = ne_eqb n rank (λ same. omega (arith, same, above))

-- what holds of all and of the new one holds then
pub put_all : (P : KeptPiece → Type 0) (sorted : List KeptPiece) (piece : KeptPiece) → AllByRecursion P sorted → P piece → AllByRecursion P (put_by_number sorted piece)
put_all P [] piece all here = (here, tt)
put_all P (first ∷ sorted) piece all here = go (nat_le (array_rank first) (array_rank piece)) refl (put_all P sorted piece all.1 here)
  where
    go : (b : Bool) → nat_le (array_rank first) (array_rank piece) ≡ b → AllByRecursion P (put_by_number sorted piece) → AllByRecursion P (put_by_number (first ∷ sorted) piece)
    go true e rest = rw (put_later first sorted piece e) (all.0, rest)
    go false e rest = rw (put_here first sorted piece e) (here, all)

pub put_ordered : (sorted : List KeptPiece) (piece : KeptPiece) → Ordered sorted → Ordered (put_by_number sorted piece)
put_ordered [] piece ordered = (tt, tt)
put_ordered (first ∷ sorted) piece ordered = go (nat_le (array_rank first) (array_rank piece)) refl (put_ordered sorted piece ordered.1)
  where
    go : (b : Bool) → nat_le (array_rank first) (array_rank piece) ≡ b → Ordered (put_by_number sorted piece) → Ordered (put_by_number (first ∷ sorted) piece)
    go true e rest =
        rw (put_later first sorted piece e)
        (put_all (λ other. array_rank first ≤ array_rank other) sorted piece ordered.0 (leb-true (array_rank first) (array_rank piece) e), rest)
    go false e rest =
        let above = leb-false (array_rank first) (array_rank piece) e in
        rw (put_here first sorted piece e)
        ((omega (arith, above), all_map (λ other (low : array_rank first ≤ array_rank other). omega (arith, above, low)) sorted ordered.0), ordered)

-- those of one number keep their order
pub put_among : (rank : ℕ) (sorted : List KeptPiece) (piece : KeptPiece) → Ordered sorted → filter (is_of rank) (put_by_number sorted piece) ≡ filter (is_of rank) sorted ++ filter (is_of rank) (piece ∷ [])
put_among rank [] piece ordered = refl
put_among rank (first ∷ sorted) piece ordered = go (nat_le (array_rank first) (array_rank piece)) (is_of rank first) (is_of rank piece) refl refl refl (put_among rank sorted piece ordered.1)
  where
    go :
        (b c d : Bool)
        → nat_le (array_rank first) (array_rank piece) ≡ b
        → is_of rank first ≡ c
        → is_of rank piece ≡ d
        → filter (is_of rank) (put_by_number sorted piece) ≡ filter (is_of rank) sorted ++ filter (is_of rank) (piece ∷ [])
        → filter (is_of rank) (put_by_number (first ∷ sorted) piece) ≡ filter (is_of rank) (first ∷ sorted) ++ filter (is_of rank) (piece ∷ [])
    go true true d e f g rest = rw (put_later first sorted piece e) (rw f (ap (λ xs. first ∷ xs) rest))
    go true false d e f g rest = rw (put_later first sorted piece e) (rw f rest)
    go false c true e f g rest =
        let above = leb-false (array_rank first) (array_rank piece) e in
        let here = eqb-true (array_rank piece) rank g in
        let none : filter (is_of rank) (first ∷ sorted) ≡ [] =
        none_pass (is_of rank) (first ∷ sorted)
        (differs_above (array_rank first) rank (omega (arith, above, here)), all_map (λ other (low : array_rank first ≤ array_rank other). differs_above (array_rank other) rank (omega (arith, above, here, low))) sorted ordered.0) in
        rw (put_here first sorted piece e) (rw g (ap (λ xs. piece ∷ xs) none ∙ ap (λ xs. xs ++ piece ∷ []) (sym none)))
    go false c false e f g rest = rw (put_here first sorted piece e) (rw g (sym (append-nil (filter (is_of rank) (first ∷ sorted)))))
