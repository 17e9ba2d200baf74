use Rattle.std.proofs.Common.{◌≡◌, ◌++◌, ℕ, drop, map}
use Rattle.std.specs.List.{enumerate_from}
use Rattle.lk_model.specs.Holes.{holes_of}
use Rattle.lk_model.specs.declared.layouts.SectionRow.{SectionRow}
use Rattle.lk_fill.specs.Filled.{all_holes}
use Rattle.lk_fill.proofs.gaps.holes.Given as goal

abbrev pub invariant-loop-number : goal.invariant-loop-number
invariant-loop-number l =
    l.found ++ map (λ (entry : ℕ × SectionRow). holes_of l.placement entry.0) (enumerate_from l.number (drop l.number l.rows)) ≡ all_holes l.placement
