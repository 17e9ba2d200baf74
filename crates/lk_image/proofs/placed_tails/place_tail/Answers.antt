use Rattle.std.proofs.Common.{ap, length, map, List, ◌+◌, ◌∙◌}
use Rattle.lk_model.specs.FullPlace.{file_end}
use Rattle.lk_model.specs.Tail.{Part, part_row, parts_end, parts_from}
use Rattle.lk_image.proofs.TailsPlaced.{tail_placed}
use Rattle.lk_image.proofs.placed_tails.place_tail.Goals as goal

pub returns : goal.returns
returns c =
    let start = c.in_ok-start.start in
    tail_placed c.args.placement.now c.args.parts start c.in_ok-rows.field-0.end c.in_ok-headers_at.headers_at c.in_ok-length.length c.in_ok-rows.field-0.rows c.in_ok-headers.headers
    (c.in_ok-start.ensures ∙ ap file_end c.as_slice.ensures)
    (c.in_ok-rows.ensures.rows ∙ ap (λ (parts : List Part). map part_row (parts_from start parts)) c.as_slice-2.ensures)
    (c.in_ok-rows.ensures.end ∙ ap (parts_end start) c.as_slice-2.ensures)
    c.in_ok-headers.ensures
    c.in_ok-headers_at.ensures
    (c.in_ok-length.ensures ∙ ap (λ bytes. c.in_ok-headers_at.headers_at + length bytes) c.as_slice-3.ensures)
