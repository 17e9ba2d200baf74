use Rattle.std.proofs.Common.{◌≡◌, ◌++◌, drop}
use Rattle.std.specs.List.{enumerate_from, flat_map}
use Rattle.lk_fill.specs.Covering.{row_covers}
use Rattle.lk_fill.proofs.covering.cover_rows.Given as goal

abbrev pub invariant-loop-number : goal.invariant-loop-number
invariant-loop-number l =
    l.ranges.items ++ flat_map row_covers (enumerate_from l.number (drop l.number l.rows)) ≡ l.initial.ranges.items ++ flat_map row_covers (enumerate_from 0 l.rows)
