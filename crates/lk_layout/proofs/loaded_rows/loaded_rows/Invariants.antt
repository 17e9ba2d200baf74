use Rattle.std.proofs.Common.{◌≡◌, ◌++◌, drop}
use Rattle.lk_model.specs.FullPlace.{first_address, loaded_rows, thread_align}
use Rattle.lk_model.specs.SectionOrder.{First, segment_of}
use Rattle.lk_layout.specs.Rows.{loaded_among}
use Rattle.lk_layout.proofs.loaded_rows.loaded_rows.Given as goal

abbrev pub invariant-loop-extent : goal.invariant-loop-extent
invariant-loop-extent l =
    l.rows.items ++ loaded_rows l.thread (segment_of l.last) l.at (loaded_among (drop l.extent-index l.extents))
    ≡ loaded_rows (thread_align l.extents) First first_address (loaded_among l.extents)
