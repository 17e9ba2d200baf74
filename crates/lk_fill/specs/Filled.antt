-- This project's own: the fill of an image. In the rooms that the file holds, what no piece and no table
-- covers is fill.
use Rattle.std.specs.Prelude.{ℕ, ◌+◌, ◌<◌, ◌≤◌, ◌^◌, ◌||◌, not, nat_le, IsTrue, if◌then◌else◌, List, [], fold, map}
use Rattle.std.specs.List.{AllByRecursion, enumerate_from, flat_map}
use Rattle.lk_model.specs.FullPlace.{tail_start}
use Rattle.lk_model.specs.Holes.{holes_of}
use Rattle.lk_model.specs.Images.{hole_stretch}
use Rattle.lk_model.specs.Lawful.{holes_are_fillable, Lawful}
use Rattle.lk_model.specs.LinkedBytes.{patch}
use Rattle.lk_model.specs.SectionKeys.{in_file, is_patched, least_of}
use Rattle.lk_model.specs.Stretches.{Stretch}
use Rattle.lk_model.specs.Views.{Resolved}
use Rattle.lk_model.specs.declared.layouts.Hole.{Hole}
use Rattle.lk_model.specs.declared.layouts.Placement.{Placement}
use Rattle.lk_model.specs.declared.layouts.SectionRow.{SectionRow}

-- bytes with stretches written into them, one after another
abbrev pub written : List ℕ → List Stretch → List ℕ
written image stretches = fold (λ bytes (s : Stretch). patch bytes s.at s.bytes) image stretches

-- the fill of holes of a row, where the file holds it
abbrev pub fill_with : SectionRow → List Hole → List Stretch
fill_with row holes = if in_file row.key.class then map (hole_stretch row) holes else []

-- the fill of the holes of a row, where the file holds it
abbrev pub row_fill : Placement → ℕ × SectionRow → List Stretch
row_fill place (n, row) = if in_file row.key.class then map (hole_stretch row) (holes_of place n) else []

-- the fill of all holes, row by row
abbrev pub fill_stretches : Placement → List Stretch
fill_stretches place = flat_map (row_fill place) (enumerate_from 0 place.sections)

-- the holes of each row, in the order of the rows
abbrev pub all_holes : Placement → List (List Hole)
all_holes place = map (λ (entry : ℕ × SectionRow). holes_of place entry.0) (enumerate_from 0 place.sections)

-- when the holes of a placement can be filled in a file of so many bytes
pub record CanBeFilled (place : Placement) (size : ℕ) : Type 0 where
  -- each hole of a patched section is as long as what fills it, as in every lawful placement
  pub fillable : AllByRecursion (λ (entry : ℕ × SectionRow). IsTrue (holes_are_fillable place entry.0 entry.1)) (enumerate_from 0 place.sections)
  -- the rooms that the file holds lie in it
  pub inside : tail_start place ≤ size
  -- and end below 4 GiB: an entry that takes a hole has its length in 32 bits
  pub short : tail_start place < 2 ^ 32

-- whether a hole of a row lies in a file of so many bytes, and can be filled
pub record IsWritable (row : SectionRow) (size : ℕ) (hole : Hole) : Type 0 where
  pub lies : row.offset + hole.start + hole.length ≤ size
  pub enough : IsTrue (not (is_patched row.key) || nat_le (least_of row.key) hole.length)
  pub short : hole.length < 2 ^ 32

-- the holes of a lawful placement can be filled in every file of less than 4 GiB that holds its rooms
abbrev pub LawfulCanBeFilled : Type 0
LawfulCanBeFilled =
    (r : Resolved) (place : Placement) (size : ℕ)
    → Lawful r place
    → tail_start place ≤ size
    → tail_start place < 2 ^ 32
    → CanBeFilled place size
