use Rattle.std.proofs.Common.{◌≡◌, drop}
use Rattle.lk_model.specs.FullPlace.{size_among}
use Rattle.lk_dyn_sizes.specs.SizeRows.{as_pairs}
use Rattle.lk_layout.proofs.extents.size_among.Given as goal

abbrev pub invariant-loop-table : goal.invariant-loop-table
invariant-loop-table l = size_among (as_pairs (drop l.table-index l.tables)) l.key ≡ size_among (as_pairs l.tables) l.key
