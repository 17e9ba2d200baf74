use Rattle.std.proofs.Common.{refl, ◌∙◌}
use Rattle.indexmap.specs.IndexMap.{get}
use Rattle.lk_model.specs.SectionKeys.{same_key}
use Rattle.lk_layout.specs.PieceRows.{row_place_after}
use Rattle.lk_layout.proofs.RowPlacesNoted.{row_places_go_on}
use Rattle.lk_layout.proofs.row_places.row_places_of.Goals as goal

-- one more row is noted
pub loop-number-preserved : goal.loop-number-preserved
loop-number-preserved c = λ k.
    row_places_go_on c.args.rows.now c.loop-number.number c.index-rows-number.result (row_place_after (c.loop-number.number, c.index-rows-number.result)) (λ q. get same_key c.loop-number.row_places q) (λ q. get same_key c.note_row_place.new.row_places q) c.loop-number-test.true c.index-rows-number.is refl c.in_ok-note_row_place.ensures k
    ∙ c.loop-number.invariant k
