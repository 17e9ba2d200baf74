-- The laws on stretches, as statements (this project's own).
use Rattle.std.specs.Prelude.{◌≡◌, ◌≤◌, ◌+◌, ℕ, true, List, length}
use Rattle.lk_model.specs.LinkedBytes.{patch}
use Rattle.lk_model.specs.Stretches.{Stretch, IsAt, IsLaidOut, laid_out, rises_from, is_apart}

-- stretches that rise, laid one after another, are at their places
abbrev pub LaidOutIsAt : Type 0
LaidOutIsAt = (ss : List Stretch) → rises_from 0 ss ≡ true → IsLaidOut ss (laid_out ss)

-- a patch of the bytes of one stretch keeps every stretch that is apart from it
abbrev pub PatchKeeps : Type 0
PatchKeeps =
    (image bytes : List ℕ) (at : ℕ) (t : Stretch) → at + length bytes ≤ length image
    → is_apart (record { at = at; bytes = bytes }) t ≡ true → IsAt image t → IsAt (patch image at bytes) t
