-- Holes rise, so that their ends can be searched by halving.
use Rattle.std.proofs.Common.{ℕ, zero, suc, ◌+◌, ◌<◌, ◌≤◌, List, [], ◌∷◌, length, get_or, arith}
use Rattle.lk_model.specs.declared.layouts.Hole.{Hole}
use Rattle.lk_freelist.specs.FreeBytes.{HolesFrom, end_of}

-- each ends above the place
ends_above : (from i : ℕ) (holes : List Hole) (d : Hole) → HolesFrom from holes → i < length holes → from < end_of (get_or holes i d)
ends_above from i [] d are within = absurd (omega arith)
ends_above from zero (x ∷ xs) d are within = omega (arith, are.0, are.1)
ends_above from (suc i) (x ∷ xs) d are within =
    let later = ends_above (x.start + x.length + 1) i xs d are.3 (omega arith) in
    omega (arith, later, are.0)

-- a later one ends above an earlier one
pub ends_rise : (from i j : ℕ) (holes : List Hole) (d : Hole) → HolesFrom from holes → i ≤ j → j < length holes → end_of (get_or holes i d) ≤ end_of (get_or holes j d)
ends_rise from i j [] d are order within = absurd (omega arith)
ends_rise from zero zero (x ∷ xs) d are order within = omega arith
ends_rise from zero (suc j) (x ∷ xs) d are order within =
    let later = ends_above (x.start + x.length + 1) j xs d are.3 (omega arith) in
    omega (arith, later)
ends_rise from (suc i) zero (x ∷ xs) d are order within = absurd (omega arith)
ends_rise from (suc i) (suc j) (x ∷ xs) d are order within = ends_rise (x.start + x.length + 1) i j xs d are.3 (omega arith) (omega arith)
