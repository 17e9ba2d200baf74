use Rattle.std.proofs.Common.{◌≡◌, List, ap, ◌∙◌, subst, arith}
use Rattle.std.specs.Result.{IfOk}
use Rattle.lk_model.specs.Holes.{holes_of}
use Rattle.lk_model.specs.declared.layouts.Hole.{Hole}
use Rattle.lk_fill.specs.Covering.{gaps_from}
use Rattle.lk_fill.proofs.HolesFound.{gaps_are_holes}
use Rattle.lk_fill.proofs.gaps.row_holes.Goals as goal

pub ranges_in-requires : goal.ranges_in-requires
ranges_in-requires c = c.requires.covering.rise

pub returns : goal.returns
returns c =
    let room = c.args.row.now.room in
    let found : gaps_from 0 c.ranges_in.result.now room ≡ holes_of c.args.placement.now c.args.number =
    ap (λ ranges. gaps_from 0 ranges room) c.ranges_in.ensures
    ∙ gaps_are_holes c.args.placement.now c.args.ranges.now c.args.number c.args.row.now c.requires.covering c.requires.there (omega arith) in
    subst (λ (hs : List Hole). IfOk c.gaps.result (λ holes. holes ≡ hs)) found c.gaps.ensures
