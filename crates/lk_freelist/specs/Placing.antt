-- This project's own: what the search for a place finds.
use Rattle.std.specs.Prelude.{◌≡◌, ℕ, List, ◌∷◌, Some, ◌+◌, drop}
use Rattle.lk_model.specs.FirstFit.{fit_in, first_fit}
use Rattle.lk_model.specs.declared.layouts.Hole.{Hole}
use Rattle.lk_freelist.specs.declared.placing.Found.{Found}

-- the place is that of first fit, and it was found in this hole
pub record IsFirstFit (holes : List Hole) (least size align : ℕ) (found : Found) : Type 0 where
  pub is_at : drop found.index holes ≡ found.hole ∷ drop (found.index + 1) holes
  pub fits : fit_in found.hole least size align ≡ Some found.at
  pub first : first_fit holes least size align ≡ Some found.at
