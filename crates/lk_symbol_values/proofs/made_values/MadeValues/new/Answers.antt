use Rattle.std.proofs.Common.{ap, ◌∙◌}
use Rattle.lk_marks.specs.Marked.{is_marked}
use Rattle.lk_symbol_values.specs.MadeValues.{bound_from, has_piece_at}
use Rattle.lk_symbol_values.proofs.Bounds.{bounds_found}
use Rattle.lk_symbol_values.proofs.made_values.MadeValues.new.Goals as goal

pub invariant_of-result : goal.invariant_of-result
invariant_of-result c = record {
  places_are = c.made_places-places.ensures;
  bounds_found =
      bounds_found c.in_ok-with_pieces.with_pieces c.in_ok-bounds.bounds.entries c.args.place.now.pieces c.args.place.now.sections
      (λ n. c.in_ok-with_pieces.ensures n ∙ ap (λ pieces. has_piece_at pieces n) c.as_slice.ensures)
      (λ name. c.in_ok-bounds.ensures name ∙ ap (λ rows. bound_from (is_marked c.in_ok-with_pieces.with_pieces) 0 rows name) c.as_slice-2.ensures);
}
