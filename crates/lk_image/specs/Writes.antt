-- This project's own: what is written into an image in front of its sections and behind them.
use Rattle.std.specs.Prelude.{ℕ, List, [], ◌∷◌, ◌++◌, map}
use Rattle.lk_model.specs.Images.{part_stretch, seal, seal_offset, stretch}
use Rattle.lk_model.specs.Stretches.{Stretch}
use Rattle.lk_model.specs.Tail.{Part, parts_from}
use Rattle.lk_image.specs.declared.placed_tails.PlacedTail.{PlacedTail}

-- the headers and the seal
abbrev pub front_writes : List ℕ → List Stretch
front_writes front = stretch 0 front ∷ stretch seal_offset seal ∷ []

-- parts, each at the next multiple of 8 from a place on
abbrev pub part_writes : ℕ → List Part → List Stretch
part_writes start parts = map part_stretch (parts_from start parts)

-- the parts of a tail and the section headers
abbrev pub tail_writes : PlacedTail → List Stretch
tail_writes tail = part_writes tail.start tail.parts ++ stretch tail.headers_at tail.headers ∷ []
