-- The gaps between the ranges of a row are lk_model's holes.
use Rattle.std.proofs.Common.{◌≡◌, ℕ, Bool, true, false, cond, ◌&&◌, ◌||◌, not, nat_le, nat_lt, ◌-◌, ◌^◌, ◌<◌, ◌≤◌, List, [], ◌∷◌, fold, Some, refl, sym, ap, ◌∙◌, arith, inl, inr}
use Rattle.std.specs.List.{list_any, slice_get}
use Rattle.std.proofs.lemmas.Bool.{cases_lt}
use Rattle.std.proofs.lemmas.Bool.Decides.{nat_tests}
use Rattle.lk_model.specs.Holes.{covered, hole_between, holes_in, holes_of, without}
use Rattle.lk_model.specs.declared.layouts.Placement.{Placement}
use Rattle.lk_model.specs.declared.layouts.SectionRow.{SectionRow}
use Rattle.lk_freelist.specs.FreeBytes.{AreHoles, is_free}
use Rattle.lk_freelist.proofs.ModelLaws.{left_free, left_holes, same}
use Rattle.lk_fill.specs.Covering.{gaps_from, is_in_row, ranges_in, IsCovering}
use Rattle.lk_fill.specs.declared.covering.Covered.{Covered}
use Rattle.lk_fill.proofs.CoveredBytes.{all_free, all_some, has, is_empty}
use Rattle.lk_fill.proofs.GapBytes.{gap_free, gap_holes, has_byte, is_covered, HaveBytes}
use Rattle.lk_fill.proofs.Rising.{row_rises}

-- a test of the ranges of a row
any_in_row : (n : ℕ) (test : Covered → Bool) (ranges : List Covered) → list_any test (ranges_in n ranges) ≡ list_any (λ (range : Covered). is_in_row n range && test range) ranges
any_in_row n test [] = refl
any_in_row n test (r ∷ rs) = by_row (is_in_row n r) ∙ ap (λ b. (is_in_row n r && test r) || b) (any_in_row n test rs)
  where
    by_row : (b : Bool) → list_any test (cond b (r ∷ ranges_in n rs) (ranges_in n rs)) ≡ ((b && test r) || list_any test (ranges_in n rs))
    by_row true = refl
    by_row false = refl

-- none of the ranges of a row is empty, where no range is
some_in_row : (n : ℕ) (ranges : List Covered) → list_any is_empty ranges ≡ false → HaveBytes (ranges_in n ranges)
some_in_row n [] none = tt
some_in_row n (r ∷ rs) none = by_row (is_in_row n r) (some_in_row n rs (second (is_empty r) (list_any is_empty rs) none))
  where
    first : (a b : Bool) → (a || b) ≡ false → a ≡ false
    first true b is = is
    first false b is = refl

    second : (a b : Bool) → (a || b) ≡ false → b ≡ false
    second true b is = absurd (cc)
    second false b is = is

    has_some : (start end : ℕ) → not (nat_lt start end) ≡ false → start < end
    has_some start end is = grind (arith, nat_tests)

    by_row : (b : Bool) → HaveBytes (ranges_in n rs) → HaveBytes (cond b (r ∷ ranges_in n rs) (ranges_in n rs))
    by_row true later = (has_some r.start r.end (first (is_empty r) (list_any is_empty rs) none), later)
    by_row false later = later

-- a byte that lies in the room and in no range
by_room : (room byte : ℕ) (a b : Bool) → (byte < room → a ≡ b) → (nat_le 0 byte && (nat_lt byte room && not a)) ≡ ((nat_le 0 byte && (nat_lt byte room && not false)) && not b)
by_room room byte a b same =
    elim (cases_lt byte room) [
      | inl less ↦ ap (λ t. nat_le 0 byte && (nat_lt byte room && not t)) (same less) ∙ regroup (nat_le 0 byte) (nat_lt byte room) b
      | inr over ↦ outside a b over
    ]
  where
    regroup : (x y z : Bool) → (x && (y && not z)) ≡ ((x && (y && not false)) && not z)
    regroup true true z = refl
    regroup true false z = refl
    regroup false y z = refl

    past : room ≤ byte → nat_lt byte room ≡ false
    past over = grind (arith, nat_tests)

    none : (x y : Bool) → (x && (false && y)) ≡ false
    none true y = refl
    none false y = refl

    outside : (a b : Bool) → room ≤ byte → (nat_le 0 byte && (nat_lt byte room && not a)) ≡ ((nat_le 0 byte && (nat_lt byte room && not false)) && not b)
    outside a b over =
        ap (λ t. nat_le 0 byte && (t && not a)) (past over)
        ∙ none (nat_le 0 byte) (not a)
        ∙ sym (ap (λ t. (nat_le 0 byte && (t && not false)) && not b) (past over) ∙ ap (λ t. t && not b) (none (nat_le 0 byte) (not false)))

-- the bytes that a row's ranges cover
covered_free : (place : Placement) (ranges : List Covered) (n : ℕ) (row : SectionRow) (byte : ℕ) → IsCovering place ranges → slice_get place.sections n ≡ Some row → byte < 2 ^ 64 - 1 → is_covered (ranges_in n ranges) byte ≡ is_free (covered place n row) byte
covered_free place ranges n row byte covering there small =
    any_in_row n (has_byte byte) ranges
    ∙ covering.same (has n byte)
    ∙ all_free place n row byte there small

pub gaps_are_holes :
    (place : Placement) (ranges : List Covered) (n : ℕ) (row : SectionRow)
    → IsCovering place ranges
    → slice_get place.sections n ≡ Some row
    → row.room < 2 ^ 64
    → gaps_from 0 (ranges_in n ranges) row.room ≡ holes_of place n
unfolding holes_of
gaps_are_holes place ranges n row covering there fits =
    let run : List Covered = ranges_in n ranges in
    let have : HaveBytes run = some_in_row n ranges (covering.same is_empty ∙ all_some place) in
    let rise = row_rises n ranges covering.rise in
    let whole : AreHoles (hole_between 0 row.room) = gap_holes 0 [] row.room fits tt in
    let free : (byte : ℕ) → is_free (gaps_from 0 run row.room) byte ≡ is_free (fold without (hole_between 0 row.room) (covered place n row)) byte = λ byte.
    gap_free 0 run row.room byte have rise
    ∙ by_room row.room byte (is_covered run byte) (is_free (covered place n row) byte) (λ less. covered_free place ranges n row byte covering there (omega (arith, less, fits)))
    ∙ ap (λ b. b && not (is_free (covered place n row) byte)) (sym (gap_free 0 [] row.room byte tt tt))
    ∙ sym (left_free (hole_between 0 row.room) (covered place n row) byte) in
    same (gaps_from 0 run row.room) (fold without (hole_between 0 row.room) (covered place n row)) (gap_holes 0 run row.room fits have) (left_holes (hole_between 0 row.room) (covered place n row) whole) free
    ∙ ap (holes_in place n) (sym there)
