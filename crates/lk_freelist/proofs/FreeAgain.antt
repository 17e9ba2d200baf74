-- A range put among holes none of whose bytes it has: holes again, and its bytes are free.
use Rattle.std.proofs.Common.{◌≡◌, ℕ, true, ◌||◌, ◌+◌, ◌^◌, ◌<◌, ◌≤◌, List, [], ◌∷◌, refl, sym, ap, ◌∙◌, subst, arith, inl, inr, ◌⊎◌}
use Rattle.std.proofs.Math.Nat.{eq-or-lt_of_le}
use Rattle.std.proofs.lemmas.Bool.{cases_lt}
use Rattle.std.proofs.lemmas.Bool.Decides.{nat_tests}
use Rattle.lk_model.specs.declared.layouts.Hole.{Hole}
use Rattle.lk_freelist.specs.FreeBytes.{HolesFrom, NoneFree, end_of, is_free, is_in}
use Rattle.lk_freelist.specs.TakingBack.{put_among, put_before}
use Rattle.lk_freelist.proofs.Joining.{before_apart, before_touching, among_behind, among_before, among_past}
use Rattle.lk_freelist.proofs.TwoTests.{or_none, or_regroup, or_swap}

-- which of three places the range has to a hole
data Place (start : ℕ) (h : Hole) : Type 0 where
  past : end_of h < start → Place start h
  behind : end_of h ≡ start → Place start h
  before : start < end_of h → Place start h

place_of : (start : ℕ) (h : Hole) → Place start h
place_of start h =
    elim (cases_lt (end_of h) start) [
      | inl less ↦ past less
      | inr above ↦ elim (eq-or-lt_of_le above) [ inl same ↦ behind (sym same) | inr less ↦ before less ]
    ]

-- a byte of a hole is free
free_first : (h : Hole) (hs : List Hole) (byte : ℕ) → h.start ≤ byte → byte < end_of h → is_free (h ∷ hs) byte ≡ true
free_first h hs byte above below = grind (arith, nat_tests)

-- the range has no byte of the later holes
none_later : (h : Hole) (hs : List Hole) (start size : ℕ) → NoneFree (h ∷ hs) start size → NoneFree hs start size
none_later h hs start size none byte above below = or_none (is_in h.start h.length byte) (is_free hs byte) (none byte above below)

-- a free byte at or above the range lies past it
lies_past : (holes : List Hole) (start size byte : ℕ) → NoneFree holes start size → is_free holes byte ≡ true → start ≤ byte → start + size ≤ byte
lies_past holes start size byte none free above =
    elim (cases_lt byte (start + size)) [
      | inl less ↦ absurd (let taken = none byte above less in cc (free, taken))
      | inr beyond ↦ beyond
    ]

-- holes that begin at the range or above it begin past it
begin_past : (at start size : ℕ) (holes : List Hole) → start ≤ at → HolesFrom at holes → NoneFree holes start size → HolesFrom (start + size) holes
begin_past at start size [] above are none = tt
begin_past at start size (h ∷ hs) above are none =
    let free = free_first h hs h.start (omega arith) (omega (arith, are.1)) in
    (lies_past (h ∷ hs) start size h.start none free (omega (arith, are.0)), are.1, are.2, are.3)

-- a hole put before others that begin at its end or above it
before_holes :
    (from start length : ℕ) (holes : List Hole)
    → from ≤ start
    → 0 < length
    → start + length < 2 ^ 64
    → HolesFrom (start + length) holes
    → HolesFrom from (put_before start length holes)
before_holes from start length [] above some fits are = (above, some, fits, tt)
before_holes from start length (h ∷ hs) above some fits are =
    elim (eq-or-lt_of_le are.0) [
      | inl same ↦
          let sum : h.start + h.length ≡ start + (length + h.length) = omega arith in
          let joined : HolesFrom (start + (length + h.length) + 1) hs = subst (λ end. HolesFrom (end + 1) hs) sum are.3 in
          subst (HolesFrom from) (sym (before_touching start length h hs same))
          (above, omega arith, omega (arith, are.2), joined)
      | inr less ↦
          subst (HolesFrom from) (sym (before_apart start length h hs (λ same. omega arith)))
          (above, some, fits, (omega arith, are.1, are.2, are.3))
    ]

-- a range put among holes
pub among_holes :
    (from start size : ℕ) (holes : List Hole)
    → from ≤ start
    → 0 < size
    → start + size < 2 ^ 64
    → HolesFrom from holes
    → NoneFree holes start size
    → HolesFrom from (put_among start size holes)
among_holes from start size [] above some fits are none = (above, some, fits, tt)
among_holes from start size (h ∷ hs) above some fits are none =
    elim (place_of start h) [
      | past less ↦
          subst (HolesFrom from) (sym (among_past start size h hs less))
          (are.0, are.1, are.2, among_holes (end_of h + 1) start size hs (omega arith) some fits are.3 (none_later h hs start size none))
      | behind same ↦
          let later = begin_past (end_of h + 1) start size hs (omega arith) are.3 (none_later h hs start size none) in
          let sum : start + size ≡ h.start + (h.length + size) = omega arith in
          subst (HolesFrom from) (sym (among_behind start size h hs same))
          (before_holes from h.start (h.length + size) hs are.0 (omega arith) (omega arith) (subst (λ end. HolesFrom end hs) sum later))
      | before less ↦
          let below : start < h.start = elim (cases_lt start h.start) [
            | inl under ↦ under
            | inr inside ↦ absurd (let beyond = lies_past (h ∷ hs) start size start none (free_first h hs start inside less) (omega arith) in omega arith)
          ] in
          let beyond = lies_past (h ∷ hs) start size h.start none (free_first h hs h.start (omega arith) (omega (arith, are.1))) (omega arith) in
          subst (HolesFrom from) (sym (among_before start size h hs less))
          (before_holes from start size (h ∷ hs) above some fits (beyond, are.1, are.2, are.3))
    ]

-- the bytes of two ranges that touch
in_both : (start length next more byte : ℕ) → start + length ≡ next → is_in start (length + more) byte ≡ (is_in start length byte || is_in next more byte)
in_both start length next more byte touch = grind (arith, nat_tests)

-- the free bytes where a hole is put before others
before_free : (start length byte : ℕ) (holes : List Hole) → is_free (put_before start length holes) byte ≡ (is_in start length byte || is_free holes byte)
before_free start length byte [] = refl
before_free start length byte (h ∷ hs) = by_order (cases_lt (start + length) h.start) (cases_lt h.start (start + length))
  where
    by_order : (start + length < h.start) ⊎ (h.start ≤ start + length) → (h.start < start + length) ⊎ (start + length ≤ h.start) → is_free (put_before start length (h ∷ hs)) byte ≡ (is_in start length byte || is_free (h ∷ hs) byte)
    by_order (inl less) other = ap (λ holes. is_free holes byte) (before_apart start length h hs (λ same. omega arith))
    by_order (inr above) (inl less) = ap (λ holes. is_free holes byte) (before_apart start length h hs (λ same. omega arith))
    by_order (inr above) (inr below) =
        let touch : start + length ≡ h.start = omega arith in
        ap (λ holes. is_free holes byte) (before_touching start length h hs touch)
        ∙ ap (λ b. b || is_free hs byte) (in_both start length h.start h.length byte touch)
        ∙ or_regroup (is_in start length byte) (is_in h.start h.length byte) (is_free hs byte)

-- the free bytes where a range is put among holes
pub among_free : (start size byte : ℕ) (holes : List Hole) → is_free (put_among start size holes) byte ≡ (is_in start size byte || is_free holes byte)
among_free start size byte [] = refl
among_free start size byte (h ∷ hs) =
    elim (place_of start h) [
      | past less ↦
          ap (λ holes. is_free holes byte) (among_past start size h hs less)
          ∙ ap (λ b. is_in h.start h.length byte || b) (among_free start size byte hs)
          ∙ or_swap (is_in h.start h.length byte) (is_in start size byte) (is_free hs byte)
      | behind same ↦
          ap (λ holes. is_free holes byte) (among_behind start size h hs same)
          ∙ before_free h.start (h.length + size) byte hs
          ∙ ap (λ b. b || is_free hs byte) (in_both h.start h.length start size byte same)
          ∙ or_regroup (is_in h.start h.length byte) (is_in start size byte) (is_free hs byte)
          ∙ or_swap (is_in h.start h.length byte) (is_in start size byte) (is_free hs byte)
      | before less ↦ ap (λ holes. is_free holes byte) (among_before start size h hs less) ∙ before_free start size byte (h ∷ hs)
    ]
