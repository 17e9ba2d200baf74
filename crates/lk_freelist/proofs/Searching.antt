-- First fit over the holes from some number on.
use Rattle.std.proofs.Common.{◌≡◌, ℕ, zero, suc, None, Some, ◌+◌, ◌^◌, ◌<◌, ◌≤◌, List, [], ◌∷◌, length, drop, get_or, sym, ap, ◌∙◌, arith, add-one, drop-cons, length-drop}
use Rattle.std.proofs.lemmas.Grind.{common_steps}
use Rattle.lk_model.specs.FirstFit.{fit_in, first_fit, or_else}
use Rattle.lk_model.specs.declared.layouts.Hole.{Hole}
use Rattle.lk_freelist.specs.FreeBytes.{HolesFrom}

-- the hole that an index reads is in the list
pub is_placed_at : (holes : List Hole) (i : ℕ) (d : Hole) → i < length holes → drop i holes ≡ get_or holes i d ∷ drop (i + 1) holes
is_placed_at holes i d within = rw add-one (drop-cons holes i d within)

-- what is at a number is within the list
pub is_within : (holes : List Hole) (i : ℕ) (h : Hole) → drop i holes ≡ h ∷ drop (i + 1) holes → i < length holes
is_within holes i h is_at = omega (arith, length-drop i holes, ap length is_at)

-- each hole ends below 2^64
pub hole_below : (holes : List Hole) (at i : ℕ) (d : Hole) → HolesFrom at holes → i < length holes → (get_or holes i d).start + (get_or holes i d).length < 2 ^ 64
hole_below [] at i d are within = absurd (omega arith)
hole_below (x ∷ xs) at zero d are within = are.2
hole_below (x ∷ xs) at (suc i) d are within = hole_below xs (x.start + x.length + 1) i d are.3 (omega arith)

-- the hole that comes first takes the piece
pub found_here :
    (holes : List Hole) (least size align i : ℕ) (d : Hole) (at : ℕ)
    → i < length holes
    → fit_in (get_or holes i d) least size align ≡ Some at
    → first_fit (drop i holes) least size align ≡ Some at
unfolding first_fit
found_here holes least size align i d at within fits =
    ap (λ hs. first_fit hs least size align) (is_placed_at holes i d within)
    ∙ ap (λ o. or_else o (first_fit (drop (i + 1) holes) least size align)) fits

-- it does not
pub not_here :
    (holes : List Hole) (least size align i : ℕ) (d : Hole)
    → i < length holes
    → fit_in (get_or holes i d) least size align ≡ None
    → first_fit (drop (i + 1) holes) least size align ≡ first_fit (drop i holes) least size align
unfolding first_fit
not_here holes least size align i d within fits =
    sym (ap (λ hs. first_fit hs least size align) (is_placed_at holes i d within)
    ∙ ap (λ o. or_else o (first_fit (drop (i + 1) holes) least size align)) fits)

-- no hole is left
pub not_anywhere : (holes : List Hole) (least size align i : ℕ) → length holes ≤ i → first_fit (drop i holes) least size align ≡ None
unfolding first_fit
not_anywhere holes least size align i over = grind (arith, common_steps)
