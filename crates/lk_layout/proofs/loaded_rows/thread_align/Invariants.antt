use Rattle.std.proofs.Common.{◌≡◌, fold, filter, map, max, drop}
use Rattle.lk_model.specs.FullPlace.{Extent, is_thread, thread_align}
use Rattle.lk_layout.proofs.loaded_rows.thread_align.Given as goal

abbrev pub invariant-loop-extent : goal.invariant-loop-extent
invariant-loop-extent l =
    fold max l.align (map (λ (extent : Extent). extent.align) (filter (λ (extent : Extent). is_thread extent.key.class) (drop l.extent-index l.extents)))
    ≡ thread_align l.extents
