use Rattle.std.proofs.Common.{◌≡◌, ◌++◌, drop}
use Rattle.lk_model.specs.FullPlace.{unloaded_rows}
use Rattle.lk_layout.specs.Rows.{unloaded_among}
use Rattle.lk_layout.proofs.section_rows.push_unloaded.Given as goal

abbrev pub invariant-loop-extent : goal.invariant-loop-extent
invariant-loop-extent l =
    l.rows.items ++ unloaded_rows l.at (unloaded_among (drop l.extent-index l.extents))
    ≡ l.initial.rows.items ++ unloaded_rows l.initial.at (unloaded_among l.extents)
