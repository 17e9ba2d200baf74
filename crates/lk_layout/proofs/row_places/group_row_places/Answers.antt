use Rattle.std.proofs.Common.{◌∙◌, map}
use Rattle.lk_layout.specs.PieceRows.{group_row_place}
use Rattle.lk_layout.proofs.ListSteps.{map_step}
use Rattle.lk_layout.proofs.row_places.group_row_places.Goals as goal

-- one more place is appended
pub loop-number-preserved : goal.loop-number-preserved
loop-number-preserved c =
    map_step (group_row_place c.args.rows.now) c.args.kept.now.sections c.loop-number.number (c.group.result.0.now, c.group.result.1.now) c.row_place_at-row_place.result c.loop-number.row_places.items c.push.new.self.items (map (group_row_place c.args.rows.now) c.args.kept.now.sections) c.group.ensures c.loop-number.invariant c.in-Ok.ensures.items (c.row_place_at-row_place.ensures ∙ c.in_ok-by_key.ensures c.group.result.0.now)
