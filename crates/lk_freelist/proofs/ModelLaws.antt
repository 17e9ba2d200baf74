-- The laws that tie free lists to lk_model's definitions.
use Rattle.std.proofs.Common.{◌≡◌, ℕ, zero, suc, Bool, true, false, ◌&&◌, not, ◌+◌, ◌-◌, ◌%◌, ◌<◌, ◌≤◌, List, [], ◌∷◌, ◌++◌, Option, Some, None, refl, sym, ap, ◌∙◌, subst, arith, inl, inr, ◌⊎◌, nat_le, if◌then◌else◌}
use Rattle.std.specs.Str.{bytes_eq}
use Rattle.std.specs.Prelude.{codes}
use Rattle.std.specs.List.{list_all, flat_map}
use Rattle.std.proofs.lemmas.Bool.Decides.{nat_tests}
use Rattle.lk_model.specs.FirstFit.{first_fit, fit_in, fits_at, or_else}
use Rattle.lk_model.specs.Holes.{hole_between, without, without_one}
use Rattle.lk_model.specs.Rooms.{is_fillable}
use Rattle.lk_model.specs.SectionKeys.{fill_kind, least_of}
use Rattle.lk_model.specs.declared.layouts.Class.{Class}
use Rattle.lk_model.specs.declared.layouts.Class.TheVariants as class
use Rattle.lk_model.specs.declared.layouts.FillKind.TheVariants as fill
use Rattle.lk_model.specs.declared.layouts.Hole.{Hole}
use Rattle.lk_freelist.specs.Filling.{least_for}
use Rattle.lk_freelist.specs.FreeBytes.{AreHoles, HolesFrom, end_of, is_free, is_in}
use Rattle.lk_freelist.specs.FreeLaws.{CanBeFilled, LeastOfKind, LeftAreFree, LeftAreHoles, NoneTooShort, PlacesAreFree, SameBytesSameHoles}
use Rattle.lk_freelist.proofs.FitsFound.{fit_fits, fit_within}
use Rattle.lk_freelist.proofs.Rest.{kept_below, rest_stays, taken_from_each, without_holes, without_free}
use Rattle.lk_freelist.proofs.Splitting.{left_of}
use Rattle.lk_freelist.proofs.TwoTests.{and_both, and_first, and_not_either, and_not_false, and_second, and_true, or_right}
use Rattle.lk_freelist.proofs.SameBytes.{same_holes}

pub same : SameBytesSameHoles
same xs ys left right free = same_holes 0 xs ys left right free

-- no bytes take nothing
without_nothing : (holes : List Hole) (range : Hole) → range.length ≡ 0 → without holes range ≡ holes
without_nothing holes range none = grind (arith, nat_tests)

-- of a range there are bytes, or none
some_or_none : (n : ℕ) → (n ≡ 0) ⊎ (0 < n)
some_or_none zero = inl refl
some_or_none (suc n) = inr (omega arith)

-- one range
one_holes : (holes : List Hole) (range : Hole) → AreHoles holes → AreHoles (without holes range)
one_holes holes range are =
    elim (some_or_none range.length) [
      | inl none ↦ subst AreHoles (sym (without_nothing holes range none)) are
      | inr some ↦ without_holes holes range.start range.length some are
    ]

none_in : (start n byte : ℕ) → n ≡ 0 → is_in start n byte ≡ false
none_in start n byte none = grind (arith, nat_tests)

one_free : (holes : List Hole) (range : Hole) (byte : ℕ) → is_free (without holes range) byte ≡ (is_free holes byte && not (is_in range.start range.length byte))
one_free holes range byte =
    elim (some_or_none range.length) [
      | inl none ↦
          ap (λ left. is_free left byte) (without_nothing holes range none)
          ∙ and_not_false (is_free holes byte) (is_in range.start range.length byte) (none_in range.start range.length byte none)
      | inr some ↦ without_free holes range.start range.length byte some
    ]

-- range by range
pub left_holes : LeftAreHoles
left_holes holes [] are = are
left_holes holes (r ∷ rs) are = left_holes (without holes r) rs (one_holes holes r are)

pub left_free : LeftAreFree
left_free holes [] byte = and_true (is_free holes byte)
left_free holes (r ∷ rs) byte =
    left_free (without holes r) rs byte
    ∙ ap (λ b. b && not (is_free rs byte)) (one_free holes r byte)
    ∙ and_not_either (is_free holes byte) (is_in r.start r.length byte) (is_free rs byte)

-- the place of first fit lies in one of the holes
in_hole : (h : Hole) (hs : List Hole) (at size byte : ℕ) → h.start ≤ at → at + size ≤ h.start + h.length → at ≤ byte → byte < at + size → is_free (h ∷ hs) byte ≡ true
in_hole h hs at size byte above inside low high = grind (arith, nat_tests)

pub places : PlacesAreFree
unfolding first_fit
places [] least size align at positive found = absurd (cc)
places (h ∷ hs) least size align at positive found = by_fit (fit_in h least size align) refl (places hs least size align at positive)
  where
    Answer : List Hole → Type 0
    Answer holes = (at % align ≡ 0) × ((byte : ℕ) → at ≤ byte → byte < at + size → is_free holes byte ≡ true)

    by_fit : (o : Option ℕ) → fit_in h least size align ≡ o → (first_fit hs least size align ≡ Some at → Answer hs) → Answer (h ∷ hs)
    by_fit (Some there) fits later =
        let here : first_fit (h ∷ hs) least size align ≡ Some there = ap (λ o. or_else o (first_fit hs least size align)) fits in
        let within = fit_within h least size align at positive (fits ∙ sym here ∙ found) in
        (within.multiple, λ byte low high. in_hole h hs at size byte within.above within.inside low high)
    by_fit None fits later =
        let rest : first_fit (h ∷ hs) least size align ≡ first_fit hs least size align = ap (λ o. or_else o (first_fit hs least size align)) fits in
        let answer = later (sym rest ∙ found) in
        (answer.0, λ byte low high. or_right (is_in h.start h.length byte) (is_free hs byte) (answer.1 byte low high))

-- the holes before and behind a piece that fits can be filled
filled_between : (least start end : ℕ) → is_fillable least (end - start) ≡ true → CanBeFilled least (hole_between start end)
filled_between least start end fills = grind (arith, nat_tests)

both_filled : (least : ℕ) (xs ys : List Hole) → CanBeFilled least xs → CanBeFilled least ys → CanBeFilled least (xs ++ ys)
both_filled least [] ys first second = second
both_filled least (x ∷ xs) ys first second =
    let here = and_first (nat_le least x.length) (list_all (λ (hole : Hole). nat_le least hole.length) xs) first in
    let later = and_second (nat_le least x.length) (list_all (λ (hole : Hole). nat_le least hole.length) xs) first in
    and_both (nat_le least x.length) (list_all (λ (hole : Hole). nat_le least hole.length) (xs ++ ys)) here (both_filled least xs ys later second)

fit_leaves : (h : Hole) (least size at : ℕ) → fits_at h least size at ≡ true → h.start ≤ at → at + size ≤ h.start + h.length → CanBeFilled least (without_one at size h)
fit_leaves h least size at fits above inside =
    let before : is_fillable least (at - h.start) ≡ true = grind (arith, nat_tests) in
    let behind : is_fillable least (h.start + h.length - (at + size)) ≡ true = grind (arith, nat_tests) in
    subst (CanBeFilled least) (sym (left_of at size h above inside))
    (both_filled least (hole_between h.start at) (hole_between (at + size) (h.start + h.length)) (filled_between least h.start at before) (filled_between least (at + size) (h.start + h.length) behind))

-- in all holes
fit_leaves_all :
    (from : ℕ) (holes : List Hole) (least size align at : ℕ)
    → 0 < align
    → HolesFrom from holes
    → CanBeFilled least holes
    → first_fit holes least size align ≡ Some at
    → (from ≤ at) × CanBeFilled least (flat_map (without_one at size) holes)
unfolding first_fit
fit_leaves_all from [] least size align at positive are fill found = absurd (cc)
fit_leaves_all from (h ∷ hs) least size align at positive are fill found = by_fit (fit_in h least size align) refl (fit_leaves_all (end_of h + 1) hs least size align at positive are.3 later_fill)
  where
    here_fill : nat_le least h.length ≡ true
    here_fill = and_first (nat_le least h.length) (list_all (λ (hole : Hole). nat_le least hole.length) hs) fill

    later_fill : CanBeFilled least hs
    later_fill = and_second (nat_le least h.length) (list_all (λ (hole : Hole). nat_le least hole.length) hs) fill

    by_fit :
        (o : Option ℕ)
        → fit_in h least size align ≡ o
        → (first_fit hs least size align ≡ Some at → (end_of h + 1 ≤ at) × CanBeFilled least (flat_map (without_one at size) hs))
        → (from ≤ at) × CanBeFilled least (flat_map (without_one at size) (h ∷ hs))
    by_fit (Some there) fits later =
        let here : first_fit (h ∷ hs) least size align ≡ Some there = ap (λ o. or_else o (first_fit hs least size align)) fits in
        let at_place = fits ∙ sym here ∙ found in
        let within = fit_within h least size align at positive at_place in
        let left = fit_leaves h least size at (fit_fits h least size align at at_place) within.above within.inside in
        let others : CanBeFilled least (flat_map (without_one at size) hs) = subst (CanBeFilled least) (sym (rest_stays at size (end_of h + 1) hs are.3 (omega (arith, within.inside)))) later_fill in
        (omega (arith, are.0, within.above), both_filled least (without_one at size h) (flat_map (without_one at size) hs) left others)
    by_fit None fits later =
        let rest : first_fit (h ∷ hs) least size align ≡ first_fit hs least size align = ap (λ o. or_else o (first_fit hs least size align)) fits in
        let answer = later (sym rest ∙ found) in
        let kept = kept_below at size h are.1 (omega (arith, answer.0)) in
        let left : CanBeFilled least (h ∷ flat_map (without_one at size) hs) = and_both (nat_le least h.length) (list_all (λ (hole : Hole). nat_le least hole.length) (flat_map (without_one at size) hs)) here_fill answer.1 in
        (omega (arith, are.0, answer.0), subst (λ ys. CanBeFilled least (ys ++ flat_map (without_one at size) hs)) (sym kept) left)

pub enough : NoneTooShort
enough holes least size align at some positive are fill found =
    subst (CanBeFilled least) (sym (taken_from_each holes at size some)) (fit_leaves_all 0 holes least size align at positive are fill found).1

-- the shortest hole by class and name
frame_least : (b : Bool) → least_for (if b then fill.Frame else fill.Zero) ≡ (if b then 16 else 1)
frame_least true = refl
frame_least false = refl

unit_least : (b : Bool) → least_for (if b then fill.Unit else fill.Zero) ≡ (if b then 11 else 1)
unit_least true = refl
unit_least false = refl

least_by_class : (name : List ℕ) (c : Class) → least_for (fill_kind (record { name = name; class = c })) ≡ least_of (record { name = name; class = c })
unfolding fill_kind
least_by_class name class.R = frame_least (bytes_eq name (codes ".eh_frame"))
least_by_class name class.X = refl
least_by_class name class.W = refl
least_by_class name class.WX = refl
least_by_class name class.Tdata = refl
least_by_class name class.Tbss = refl
least_by_class name class.Bss = refl
least_by_class name class.N = unit_least (bytes_eq name (codes ".debug_info"))

pub least : LeastOfKind
least key = least_by_class key.name key.class
