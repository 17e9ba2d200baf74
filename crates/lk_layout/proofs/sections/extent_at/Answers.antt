use Rattle.std.proofs.Common.{sym, ap, arith, length}
use Rattle.std.proofs.Math.ListN.{length-map}
use Rattle.lk_dyn_sizes.specs.SizeRows.{as_pairs}
use Rattle.lk_layout.specs.Walked.{walked}
use Rattle.lk_layout.proofs.ExtentsReported.{found_extent}
use Rattle.lk_layout.proofs.ListSteps.{read_at}
use Rattle.lk_layout.proofs.sections.extent_at.Goals as goal

-- the walk with the number of the group is the section's
pub returns-in_ok-extent-in-Some : goal.returns-in_ok-extent-in-Some
returns-in_ok-extent-in-Some c =
    let size = ap length c.requires in
    let groups = length-map c.args.kept.now.sections walked in
    let within = c.in-Some.ensures.within in
    found_extent c.args.patch (as_pairs c.args.tables.now) c.args.kept.now.sections c.args.walks.now c.args.key.now c.in-Some.number c.index-walks-number.result c.in_ok-extent-in-Some.extent c.requires (sym c.in-Some.ensures.number)
    (read_at c.args.walks.now c.in-Some.number c.index-walks-number.result (omega (arith, size, groups, within)) c.index-walks-number.is) c.in_ok-extent-in-Some.ensures
