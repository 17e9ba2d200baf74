use Rattle.std.proofs.Common.{◌≡◌, drop, length}
use Rattle.std.specs.List.{enumerate_from, flat_map}
use Rattle.lk_fill.specs.Filled.{fill_stretches, row_fill, written, CanBeFilled}
use Rattle.lk_fill.proofs.writing.write_rows.Given as goal

abbrev pub invariant-loop-number : goal.invariant-loop-number
invariant-loop-number l =
    CanBeFilled l.placement (length l.initial.image)
    → written l.image (flat_map (row_fill l.placement) (enumerate_from l.number (drop l.number l.rows))) ≡ written l.initial.image (fill_stretches l.placement)
