-- Holes are determined by their free bytes.
use Rattle.std.proofs.Common.{◌≡◌, ℕ, true, false, ◌||◌, ◌+◌, ◌<◌, ◌≤◌, List, [], ◌∷◌, refl, sym, ap, ◌∙◌, arith, subst, inl, inr}
use Rattle.std.proofs.lemmas.Bool.{cases_lt}
use Rattle.std.proofs.lemmas.Bool.Decides.{nat_tests}
use Rattle.lk_model.specs.declared.layouts.Hole.{Hole}
use Rattle.lk_freelist.specs.FreeBytes.{HolesFrom, end_of, is_free, is_in}

-- no byte below the holes is free
pub not_below : (from byte : ℕ) (holes : List Hole) → HolesFrom from holes → byte < from → is_free holes byte ≡ false
not_below from byte [] are below = refl
not_below from byte (h ∷ hs) are below =
    let later = not_below (end_of h + 1) byte hs are.3 (omega (arith, are.0)) in
    let here : is_in h.start h.length byte ≡ false = let start = are.0 in grind (arith, nat_tests) in
    ap (λ b. b || is_free hs byte) here ∙ later

-- the bytes of a hole, and those around it
inside : (h : Hole) (byte : ℕ) → h.start ≤ byte → byte < end_of h → is_in h.start h.length byte ≡ true
inside h byte above below = grind (arith, nat_tests)

over : (h : Hole) (byte : ℕ) → end_of h ≤ byte → is_in h.start h.length byte ≡ false
over h byte past = grind (arith, nat_tests)

-- the same bytes are free
abbrev SameFree : List Hole → List Hole → Type 0
SameFree xs ys = (byte : ℕ) → is_free xs byte ≡ is_free ys byte

-- the first holes begin at one place
no_earlier : (from : ℕ) (x y : Hole) (xs ys : List Hole) → HolesFrom from (x ∷ xs) → HolesFrom from (y ∷ ys) → SameFree (x ∷ xs) (y ∷ ys) → y.start ≤ x.start
no_earlier from x y xs ys left right same =
    elim (cases_lt x.start y.start) [
      | inl less ↦
          let free : is_free (x ∷ xs) x.start ≡ true = ap (λ b. b || is_free xs x.start) (inside x x.start (omega arith) (omega (arith, left.1))) in
          let taken = not_below y.start x.start (y ∷ ys) (omega arith, right.1, right.2, right.3) less in
          absurd (cc (free, taken, same x.start))
      | inr above ↦ above
    ]

-- and end at one
no_shorter : (from : ℕ) (x y : Hole) (xs ys : List Hole) → HolesFrom from (x ∷ xs) → SameFree (x ∷ xs) (y ∷ ys) → x.start ≡ y.start → end_of y ≤ end_of x
no_shorter from x y xs ys left same start =
    elim (cases_lt (end_of x) (end_of y)) [
      | inl less ↦
          let free : is_free (y ∷ ys) (end_of x) ≡ true = ap (λ b. b || is_free ys (end_of x)) (inside y (end_of x) (omega arith) less) in
          let later = not_below (end_of x + 1) (end_of x) xs left.3 (omega arith) in
          let taken : is_free (x ∷ xs) (end_of x) ≡ false = ap (λ b. b || is_free xs (end_of x)) (over x (end_of x) (omega arith)) ∙ later in
          absurd (cc (free, taken, same (end_of x)))
      | inr above ↦ above
    ]

-- and then the others have the same free bytes
later_same : (x y : Hole) (xs ys : List Hole) → HolesFrom (end_of x + 1) xs → HolesFrom (end_of x + 1) ys → SameFree (x ∷ xs) (y ∷ ys) → end_of x ≡ end_of y → SameFree xs ys
later_same x y xs ys left right same end byte =
    elim (cases_lt byte (end_of x + 1)) [
      | inl less ↦ not_below (end_of x + 1) byte xs left less ∙ sym (not_below (end_of x + 1) byte ys right less)
      | inr above ↦
          ap (λ b. b || is_free xs byte) (sym (over x byte (omega arith)))
          ∙ same byte
          ∙ ap (λ b. b || is_free ys byte) (over y byte (omega (arith, end)))
    ]

-- holes with the same free bytes are the same
pub same_holes : (from : ℕ) (xs ys : List Hole) → HolesFrom from xs → HolesFrom from ys → SameFree xs ys → xs ≡ ys
same_holes from [] [] left right same = refl
same_holes from [] (y ∷ ys) left right same =
    let free : is_free (y ∷ ys) y.start ≡ true = ap (λ b. b || is_free ys y.start) (inside y y.start (omega arith) (omega (arith, right.1))) in
    absurd (cc (free, same y.start))
same_holes from (x ∷ xs) [] left right same =
    let free : is_free (x ∷ xs) x.start ≡ true = ap (λ b. b || is_free xs x.start) (inside x x.start (omega arith) (omega (arith, left.1))) in
    absurd (cc (free, same x.start))
same_holes from (x ∷ xs) (y ∷ ys) left right same =
    let back : SameFree (y ∷ ys) (x ∷ xs) = λ byte. sym (same byte) in
    let start : x.start ≡ y.start = omega (arith, no_earlier from x y xs ys left right same, no_earlier from y x ys xs right left back) in
    let end : end_of x ≡ end_of y = omega (arith, no_shorter from x y xs ys left same start, no_shorter from y x ys xs right back (sym start)) in
    let size : x.length ≡ y.length = omega arith in
    let right_later : HolesFrom (end_of x + 1) ys = subst (λ e. HolesFrom (e + 1) ys) (sym end) right.3 in
    let later = same_holes (end_of x + 1) xs ys left.3 right_later (later_same x y xs ys left.3 right_later same end) in
    ap (λ (s : ℕ). let h : Hole = record { start = s; length = x.length } in h ∷ xs) start
    ∙ ap (λ (n : ℕ). let h : Hole = record { start = y.start; length = n } in h ∷ xs) size
    ∙ ap (λ hs. y ∷ hs) later
