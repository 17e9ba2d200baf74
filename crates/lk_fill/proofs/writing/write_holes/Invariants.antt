use Rattle.std.proofs.Common.{◌≡◌, drop, length, map}
use Rattle.std.specs.List.{AllByRecursion}
use Rattle.lk_model.specs.Images.{hole_stretch}
use Rattle.lk_fill.specs.Filled.{written, IsWritable}
use Rattle.lk_fill.proofs.writing.write_holes.Given as goal

abbrev pub invariant-loop-hole : goal.invariant-loop-hole
invariant-loop-hole l =
    AllByRecursion (IsWritable l.row (length l.initial.image)) l.holes
    → written l.image (map (hole_stretch l.row) (drop l.hole-index l.holes)) ≡ written l.initial.image (map (hole_stretch l.row) l.holes)
