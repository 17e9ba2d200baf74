-- This project's own: the rest of a run path, of whose directories none or some are put.
use Rattle.std.specs.Prelude.{ℕ, Bool, true, false, List, ◌∷◌, flat_map}
use Rattle.std.specs.List.{join_with_byte}

-- the directories that follow, each after a colon but the first of all
abbrev pub joined_after : Bool → List (List ℕ) → List ℕ
joined_after true dirs = join_with_byte 58 dirs
joined_after false dirs = flat_map (λ dir. 58 ∷ dir) dirs
