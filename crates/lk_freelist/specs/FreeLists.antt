-- This project's own: what a free list is.
use Rattle.std.specs.Prelude.{ℕ, List}
use Rattle.lk_model.specs.declared.layouts.Hole.{Hole}

-- the length of the shortest hole that may be left, the holes by rising start, and how many calls that
-- place or take back will surely find memory for their holes
pub record Free : Type 0 where
  pub least : ℕ
  pub holes : List Hole
  pub spare : ℕ
