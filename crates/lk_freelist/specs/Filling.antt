-- This project's own: the shortest hole of each kind, and the fixed bytes at the start of a hole.
use Rattle.std.specs.Prelude.{ℕ, List, [], ◌∷◌, ◌++◌, ◌-◌}
use Rattle.lk_elf.specs.Fields.{bytes_of}
use Rattle.lk_model.specs.declared.layouts.FillKind.{FillKind}
use Rattle.lk_model.specs.declared.layouts.FillKind.TheVariants as fill

-- the length of the shortest hole that a kind fills
abbrev pub least_for : FillKind → ℕ
least_for fill.Zero = 1
least_for fill.Trap = 1
least_for fill.Frame = 16
least_for fill.Unit = 11

-- the start of a frame entry that describes nothing and takes a hole of this length
abbrev pub frame_head : ℕ → List ℕ
frame_head hole = bytes_of 4 (hole - 4) ++ bytes_of 4 0 ++ 1 ∷ 0 ∷ 1 ∷ 0x78 ∷ 0x10 ∷ []

-- the start of an empty debug unit that takes a hole of this length (DWARF 4, "Unit Headers")
abbrev pub unit_head : ℕ → List ℕ
unit_head hole = bytes_of 4 (hole - 4) ++ 4 ∷ 0 ∷ bytes_of 4 0 ++ 8 ∷ []
