use Rattle.std.proofs.Common.{◌≡◌, ◌++◌, drop}
use Rattle.lk_piece_rows.specs.RowNumbers.{ranges_end, ranges_from}
use Rattle.lk_piece_rows.proofs.section_ranges.ranges_of_counts.Given as goal

-- the ranges so far, followed by those of the counts that are left, are those of all counts
abbrev pub invariant-loop-count : goal.invariant-loop-count
invariant-loop-count l = record {
  ranges : l.ranges.items ++ ranges_from l.end (drop l.count-index l.counts) ≡ ranges_from 0 l.counts;
  end : ranges_end l.end (drop l.count-index l.counts) ≡ ranges_end 0 l.counts;
}
