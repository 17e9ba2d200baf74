use Rattle.std.proofs.Common.{◌≡◌, ◌++◌, map, drop}
use Rattle.lk_layout.specs.Extents.{extent_under}
use Rattle.lk_dyn_sizes.specs.SizeRows.{as_pairs}
use Rattle.lk_layout.proofs.sections.extents_of.Given as goal

abbrev pub invariant-loop-key : goal.invariant-loop-key
invariant-loop-key l = l.extents.items ++ map (extent_under l.patch (as_pairs l.tables) l.kept.sections) (drop l.key-index l.keys) ≡ map (extent_under l.patch (as_pairs l.tables) l.kept.sections) l.keys
