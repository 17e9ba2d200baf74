-- The gaps between ranges that rise are holes, with the bytes that lie in none of the ranges.
use Rattle.std.proofs.Common.{◌≡◌, ℕ, Bool, true, false, ◌&&◌, ◌||◌, not, nat_le, nat_lt, ◌+◌, ◌-◌, ◌^◌, ◌<◌, ◌≤◌, min, max, List, [], ◌∷◌, ◌++◌, refl, sym, ap, ◌∙◌, subst, arith, inl, inr}
use Rattle.std.specs.List.{AllByRecursion, list_any}
use Rattle.std.proofs.lemmas.Bool.{cases_lt}
use Rattle.std.proofs.lemmas.Bool.Decides.{nat_tests}
use Rattle.std.proofs.lemmas.List.Folds.{list_any-append}
use Rattle.lk_model.specs.Holes.{hole_between}
use Rattle.lk_model.specs.declared.layouts.Hole.{Hole}
use Rattle.lk_freelist.specs.FreeBytes.{HolesFrom, is_free, is_in}
use Rattle.lk_freelist.proofs.Rest.{holes_from_below}
use Rattle.lk_freelist.proofs.Splitting.{between_none, between_some}
use Rattle.lk_fill.specs.Covering.{gaps_from}
use Rattle.lk_fill.specs.declared.covering.Covered.{Covered}
use Rattle.lk_fill.proofs.Rising.{Rises}

-- whether a range has a byte
abbrev pub has_byte : ℕ → Covered → Bool
has_byte byte range = nat_le range.start byte && nat_lt byte range.end

-- whether one of the ranges has it
abbrev pub is_covered : List Covered → ℕ → Bool
is_covered ranges byte = list_any (has_byte byte) ranges

-- each range has a byte
abbrev pub HaveBytes : List Covered → Type 0
HaveBytes ranges = AllByRecursion (λ (range : Covered). range.start < range.end) ranges

-- ---- they are holes

between_holes : (at end next : ℕ) (rest : List Hole) → end < 2 ^ 64 → at ≤ next → (at < end → end + 1 ≤ next) → HolesFrom next rest → HolesFrom at (hole_between at end ++ rest)
between_holes at end next rest small low past are =
    elim (cases_lt at end) [
      | inl less ↦
          let behind = past less in
          subst (λ hs. HolesFrom at (hs ++ rest)) (sym (between_some at end less))
          (omega arith, omega arith, omega arith, holes_from_below (at + (end - at) + 1) next rest (omega arith) are)
      | inr none ↦ subst (λ hs. HolesFrom at (hs ++ rest)) (sym (between_none at end none)) (holes_from_below at next rest low are)
    ]

pub gap_holes : (at : ℕ) (ranges : List Covered) (room : ℕ) → room < 2 ^ 64 → HaveBytes ranges → HolesFrom at (gaps_from at ranges room)
gap_holes at [] room small have =
    elim (cases_lt at room) [
      | inl less ↦ subst (HolesFrom at) (sym (between_some at room less)) (omega arith, omega arith, omega arith, tt)
      | inr none ↦ subst (HolesFrom at) (sym (between_none at room none)) tt
    ]
gap_holes at (r ∷ rs) room small have =
    let some = have.0 in
    between_holes at (min r.start room) (max at r.end) (gaps_from (max at r.end) rs room) (omega arith) (omega arith) (λ less. omega (arith, some, less)) (gap_holes (max at r.end) rs room small have.1)

-- ---- their bytes

between_free : (start end byte : ℕ) → is_free (hole_between start end) byte ≡ (nat_le start byte && nat_lt byte end)
between_free start end byte = grind (arith, nat_tests)

misses : (start end byte : ℕ) → byte < start → (nat_le start byte && nat_lt byte end) ≡ false
misses start end byte below = grind (arith, nat_tests)

-- no byte below them all is covered
not_covered : (start : ℕ) (ranges : List Covered) (byte : ℕ) → AllByRecursion (λ (other : Covered). start ≤ other.start) ranges → byte < start → is_covered ranges byte ≡ false
not_covered start [] byte above below = refl
not_covered start (r ∷ rs) byte above below =
    let here = above.0 in
    ap (λ b. b || is_covered rs byte) (misses r.start r.end byte (omega (arith, here)))
    ∙ not_covered start rs byte above.1 below

step_open :
    (at room start end byte : ℕ)
    → start < end
    → ((nat_le at byte && nat_lt byte (min start room)) || (nat_le (max at end) byte && (nat_lt byte room && not false)))
    ≡ (nat_le at byte && (nat_lt byte room && not ((nat_le start byte && nat_lt byte end) || false)))
step_open at room start end byte some = grind (arith, nat_tests)

step_covered :
    (at room start end byte : ℕ)
    → start ≤ byte
    → ((nat_le at byte && nat_lt byte (min start room)) || (nat_le (max at end) byte && (nat_lt byte room && not true)))
    ≡ (nat_le at byte && (nat_lt byte room && not ((nat_le start byte && nat_lt byte end) || true)))
step_covered at room start end byte above = grind (arith, nat_tests)

-- a byte by the first range and whether a later one has it
gap_step :
    (at room start end byte : ℕ) (covered : Bool)
    → start < end
    → (byte < start → covered ≡ false)
    → ((nat_le at byte && nat_lt byte (min start room)) || (nat_le (max at end) byte && (nat_lt byte room && not covered)))
    ≡ (nat_le at byte && (nat_lt byte room && not ((nat_le start byte && nat_lt byte end) || covered)))
gap_step at room start end byte false some none = step_open at room start end byte some
gap_step at room start end byte true some none =
    elim (cases_lt byte start) [
      | inl below ↦ absurd (let other = none below in cc)
      | inr above ↦ step_covered at room start end byte above
    ]

pub gap_free :
    (at : ℕ) (ranges : List Covered) (room byte : ℕ)
    → HaveBytes ranges
    → Rises ranges
    → is_free (gaps_from at ranges room) byte ≡ (nat_le at byte && (nat_lt byte room && not (is_covered ranges byte)))
gap_free at [] room byte have rise = between_free at room byte ∙ with_true (nat_le at byte) (nat_lt byte room)
  where
    with_true : (a b : Bool) → (a && b) ≡ (a && (b && not false))
    with_true true true = refl
    with_true true false = refl
    with_true false b = refl
gap_free at (r ∷ rs) room byte have rise =
    list_any-append (λ (hole : Hole). is_in hole.start hole.length byte) (hole_between at (min r.start room)) (gaps_from (max at r.end) rs room)
    ∙ ap (λ b. b || is_free (gaps_from (max at r.end) rs room) byte) (between_free at (min r.start room) byte)
    ∙ ap (λ b. (nat_le at byte && nat_lt byte (min r.start room)) || b) (gap_free (max at r.end) rs room byte have.1 rise.1)
    ∙ gap_step at room r.start r.end byte (is_covered rs byte) have.0 (λ below. not_covered r.start rs byte rise.0 below)
