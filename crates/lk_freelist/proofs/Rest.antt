-- What is left of holes where bytes are taken from them.
use Rattle.std.proofs.Common.{◌≡◌, ℕ, zero, suc, Bool, true, false, ◌&&◌, ◌||◌, not, ◌+◌, ◌-◌, ◌^◌, ◌<◌, ◌≤◌, List, [], ◌∷◌, ◌++◌, length, take, drop, refl, sym, ap, ◌∙◌, arith, min, max, append_assoc, nat_le, nat_lt, subst, length-drop, add-one}
use Rattle.std.specs.List.{flat_map}
use Rattle.std.proofs.lemmas.Bool.Decides.{nat_tests}
use Rattle.std.proofs.lemmas.List.Folds.{list_any-append}
use Rattle.lk_model.specs.Holes.{hole_between, without, without_one}
use Rattle.lk_model.specs.declared.layouts.Hole.{Hole}
use Rattle.lk_freelist.specs.FreeBytes.{AreHoles, HolesFrom, is_free, is_in}
use Rattle.lk_freelist.specs.Placing.{IsFirstFit}
use Rattle.lk_freelist.specs.declared.placing.Found.{Found}
use Rattle.lk_freelist.proofs.FitsFound.{fit_within}
use Rattle.lk_freelist.proofs.TwoTests.{or_with}
use Rattle.lk_freelist.proofs.Splitting.{between_some, between_none}

-- holes from a place on are holes from below it on
pub holes_from_below : (low at : ℕ) (holes : List Hole) → low ≤ at → HolesFrom at holes → HolesFrom low holes
holes_from_below low at [] below are = tt
holes_from_below low at (h ∷ hs) below are = (omega (arith, are.0), are.1, are.2, are.3)

-- bytes are taken from every hole
pub taken_from_each : (holes : List Hole) (at size : ℕ) → 0 < size → without holes (record { start = at; length = size }) ≡ flat_map (without_one at size) holes
taken_from_each holes at size some = grind (arith, nat_tests)

-- a hole apart from the bytes stays
pub kept_below : (at size : ℕ) (h : Hole) → 0 < h.length → h.start + h.length ≤ at → without_one at size h ≡ h ∷ []
kept_below at size h some below =
    let first : min at (h.start + h.length) ≡ h.start + h.length = omega arith in
    let same : h.start + h.length - h.start ≡ h.length = omega arith in
    ap (λ k. hole_between h.start k ++ hole_between (max h.start (at + size)) (h.start + h.length)) first
    ∙ ap (λ ys. ys ++ hole_between (max h.start (at + size)) (h.start + h.length)) (between_some h.start (h.start + h.length) (omega arith))
    ∙ ap (λ ys. record { start = h.start; length = h.start + h.length - h.start } ∷ ys) (between_none (max h.start (at + size)) (h.start + h.length) (omega arith))
    ∙ ap (λ (n : ℕ). let kept : Hole = record { start = h.start; length = n } in kept ∷ []) same

kept_above : (at size : ℕ) (h : Hole) → 0 < h.length → at + size ≤ h.start → without_one at size h ≡ h ∷ []
kept_above at size h some above =
    let last : max h.start (at + size) ≡ h.start = omega arith in
    let same : h.start + h.length - h.start ≡ h.length = omega arith in
    ap (λ k. hole_between h.start (min at (h.start + h.length)) ++ hole_between k (h.start + h.length)) last
    ∙ ap (λ ys. ys ++ hole_between h.start (h.start + h.length)) (between_none h.start (min at (h.start + h.length)) (omega arith))
    ∙ between_some h.start (h.start + h.length) (omega arith)
    ∙ ap (λ (n : ℕ). let kept : Hole = record { start = h.start; length = n } in kept ∷ []) same

-- holes above the bytes stay
pub rest_stays : (at size from : ℕ) (holes : List Hole) → HolesFrom from holes → at + size ≤ from → flat_map (without_one at size) holes ≡ holes
rest_stays at size from [] are above = refl
rest_stays at size from (h ∷ hs) are above =
    ap (λ ys. ys ++ flat_map (without_one at size) hs) (kept_above at size h are.1 (omega (arith, are.0)))
    ∙ ap (λ ys. h ∷ ys) (rest_stays at size (h.start + h.length + 1) hs are.3 (omega (arith, are.0)))

-- a hole of the list begins at or above the place
is_above : (from i : ℕ) (h : Hole) (holes : List Hole) → HolesFrom from holes → drop i holes ≡ h ∷ drop (suc i) holes → from ≤ h.start
is_above from i h [] are is_at = absurd (omega (arith, length-drop {A = Hole} i [], ap length is_at))
is_above from zero h (x ∷ xs) are is_at =
    let here : x ≡ h = cc in
    let same : x.start ≡ h.start = ap (λ (y : Hole). y.start) here in
    omega (arith, are.0, same)
is_above from (suc i) h (x ∷ xs) are is_at =
    let later = is_above (x.start + x.length + 1) i h xs are.3 is_at in
    omega (arith, are.0, later)

-- and ends below 2^64
is_below : (from i : ℕ) (h : Hole) (holes : List Hole) → HolesFrom from holes → drop i holes ≡ h ∷ drop (suc i) holes → h.start + h.length < 2 ^ 64
is_below from i h [] are is_at = absurd (omega (arith, length-drop {A = Hole} i [], ap length is_at))
is_below from zero h (x ∷ xs) are is_at =
    let here : x ≡ h = cc in
    let P : Hole → Type 0 = λ y. y.start + y.length < 2 ^ 64 in
    subst P here are.2
is_below from (suc i) h (x ∷ xs) are is_at = is_below (x.start + x.length + 1) i h xs are.3 is_at

-- only the hole that has the bytes changes
pub one_changes :
    (from at size i : ℕ) (h : Hole) (holes : List Hole)
    → 0 < size
    → HolesFrom from holes
    → drop i holes ≡ h ∷ drop (suc i) holes
    → h.start ≤ at
    → at + size ≤ h.start + h.length
    → flat_map (without_one at size) holes ≡ take i holes ++ (without_one at size h ++ drop (suc i) holes)
one_changes from at size i h [] some are is_at above inside = absurd (omega (arith, length-drop {A = Hole} i [], ap length is_at))
one_changes from at size zero h (x ∷ xs) some are is_at above inside =
    let here : x ≡ h = cc in
    let end : x.start + x.length ≡ h.start + h.length = ap (λ (y : Hole). y.start + y.length) here in
    ap (λ ys. without_one at size x ++ ys) (rest_stays at size (x.start + x.length + 1) xs are.3 (omega (arith, end, inside)))
    ∙ ap (λ y. without_one at size y ++ xs) here
one_changes from at size (suc i) h (x ∷ xs) some are is_at above inside =
    let start = is_above (x.start + x.length + 1) i h xs are.3 is_at in
    ap (λ ys. ys ++ flat_map (without_one at size) xs) (kept_below at size x are.1 (omega (arith, start)))
    ∙ ap (λ ys. x ∷ ys) (one_changes (x.start + x.length + 1) at size i h xs some are.3 is_at above inside)

-- a hole put before holes that lie above it
put_between :
    (start end from above : ℕ) (holes : List Hole)
    → from ≤ start
    → from ≤ above
    → end + 1 ≤ above
    → end < 2 ^ 64
    → HolesFrom above holes
    → HolesFrom from (hole_between start end ++ holes)
put_between start end from above holes low under over fits are = by_order (nat_lt start end) refl
  where
    by_order : (b : Bool) → nat_lt start end ≡ b → HolesFrom from (hole_between start end ++ holes)
    by_order true less =
        let some : start < end = grind (arith, nat_tests) in
        subst (λ ys. HolesFrom from (ys ++ holes)) (sym (between_some start end some))
        (low, omega arith, omega arith, holes_from_below (start + (end - start) + 1) above holes (omega arith) are)
    by_order false not_less =
        let none : end ≤ start = grind (arith, nat_tests) in
        subst (λ ys. HolesFrom from (ys ++ holes)) (sym (between_none start end none)) (holes_from_below from above holes under are)

-- what is left are holes
pub rest_are_holes : (from at size : ℕ) (holes : List Hole) → 0 < size → HolesFrom from holes → HolesFrom from (flat_map (without_one at size) holes)
rest_are_holes from at size [] some are = tt
rest_are_holes from at size (h ∷ hs) some are =
    let end : ℕ = h.start + h.length in
    let behind : ℕ = max h.start (at + size) in
    let later = rest_are_holes (end + 1) at size hs some are.3 in
    let second = put_between behind end (min behind (end + 1)) (end + 1) (flat_map (without_one at size) hs) (omega arith) (omega arith) (omega arith) are.2 later in
    let first = put_between h.start (min at end) from (min behind (end + 1)) (hole_between behind end ++ flat_map (without_one at size) hs) are.0 (omega (arith, are.0)) (omega arith) (omega (arith, are.2)) second in
    rw append_assoc first

-- the bytes between two places
free_between : (start end byte : ℕ) → is_free (hole_between start end) byte ≡ (nat_le start byte && nat_lt byte end)
free_between start end byte = grind (arith, nat_tests)

-- a byte of what is left of a hole is one of the hole that is not taken
free_left : (at size byte : ℕ) (h : Hole) → is_free (without_one at size h) byte ≡ (is_in h.start h.length byte && not (is_in at size byte))
free_left at size byte h =
    list_any-append (λ (hole : Hole). is_in hole.start hole.length byte) (hole_between h.start (min at (h.start + h.length))) (hole_between (max h.start (at + size)) (h.start + h.length))
    ∙ ap (λ b. b || is_free (hole_between (max h.start (at + size)) (h.start + h.length)) byte) (free_between h.start (min at (h.start + h.length)) byte)
    ∙ ap (λ b. (nat_le h.start byte && nat_lt byte (min at (h.start + h.length))) || b) (free_between (max h.start (at + size)) (h.start + h.length) byte)
    ∙ grind (arith, nat_tests)

-- the free bytes of what is left are the free bytes without those taken
pub free_rest : (at size byte : ℕ) (holes : List Hole) → is_free (flat_map (without_one at size) holes) byte ≡ (is_free holes byte && not (is_in at size byte))
free_rest at size byte [] = refl
free_rest at size byte (h ∷ hs) =
    let later = free_rest at size byte hs in
    list_any-append (λ (hole : Hole). is_in hole.start hole.length byte) (without_one at size h) (flat_map (without_one at size) hs)
    ∙ ap (λ b. b || is_free (flat_map (without_one at size) hs) byte) (free_left at size byte h)
    ∙ ap (λ b. (is_in h.start h.length byte && not (is_in at size byte)) || b) later
    ∙ or_with (is_in h.start h.length byte) (is_free hs byte) (not (is_in at size byte))

-- what first fit finds lies below 2^64
pub found_below :
    (holes : List Hole) (least size align : ℕ) (found : Found)
    → AreHoles holes
    → IsFirstFit holes least size align found
    → found.hole.start + found.hole.length < 2 ^ 64
found_below holes least size align found are first =
    is_below 0 found.index found.hole holes are (rw add-one at first.is_at)

-- the hole that was found is replaced by what is left of it
pub found_replaced :
    (holes : List Hole) (least size align : ℕ) (found : Found)
    → 0 < size
    → 0 < align
    → AreHoles holes
    → IsFirstFit holes least size align found
    → take found.index holes ++ without_one found.at size found.hole ++ drop (found.index + 1) holes ≡ without holes (record { start = found.at; length = size })
found_replaced holes least size align found some positive are first =
    let fits = fit_within found.hole least size align found.at positive first.fits in
    append_assoc (take found.index holes) (without_one found.at size found.hole) (drop (found.index + 1) holes)
    ∙ ap (λ k. take found.index holes ++ (without_one found.at size found.hole ++ drop k holes)) (add-one found.index)
    ∙ sym (one_changes 0 found.at size found.index found.hole holes some are (rw add-one at first.is_at) fits.above fits.inside)
    ∙ sym (taken_from_each holes found.at size some)

-- what is left are holes, whose bytes are the free ones that were not taken
pub without_holes : (holes : List Hole) (at size : ℕ) → 0 < size → AreHoles holes → AreHoles (without holes (record { start = at; length = size }))
without_holes holes at size some are = subst AreHoles (sym (taken_from_each holes at size some)) (rest_are_holes 0 at size holes some are)

pub without_free :
    (holes : List Hole) (at size byte : ℕ)
    → 0 < size
    → is_free (without holes (record { start = at; length = size })) byte ≡ (is_free holes byte && not (is_in at size byte))
without_free holes at size byte some = ap (λ left. is_free left byte) (taken_from_each holes at size some) ∙ free_rest at size byte holes
