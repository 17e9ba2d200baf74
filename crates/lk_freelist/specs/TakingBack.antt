-- This project's own: the holes when a range of bytes becomes free that begins where no hole begins.
use Rattle.std.specs.Prelude.{ℕ, List, [], ◌∷◌, ◌+◌, ◌==◌, nat_lt, if◌then◌else◌}
use Rattle.lk_model.specs.declared.layouts.Hole.{Hole}

-- a hole put before others, as one with the first of them where it touches it
abbrev pub put_before : ℕ → ℕ → List Hole → List Hole
put_before start length [] = record { start = start; length = length } ∷ []
put_before start length (hole ∷ holes) =
    if start + length == hole.start then record { start = start; length = length + hole.length } ∷ holes
    else record { start = start; length = length } ∷ hole ∷ holes

-- a range put among holes, as one with those that it touches
abbrev pub put_among : ℕ → ℕ → List Hole → List Hole
put_among start length [] = record { start = start; length = length } ∷ []
put_among start length (hole ∷ holes) =
    if nat_lt (hole.start + hole.length) start then hole ∷ put_among start length holes
    else if hole.start + hole.length == start then put_before hole.start (hole.length + length) holes
    else put_before start length (hole ∷ holes)
