use Rattle.std.proofs.Common.{ap, map}
use Rattle.lk_layout.specs.Walked.{walked}
use Rattle.lk_layout.proofs.ListSteps.{map_step}
use Rattle.lk_layout.proofs.sections.walk_groups.Goals as goal

-- one more group is walked
pub loop-number-preserved : goal.loop-number-preserved
loop-number-preserved c =
    map_step walked c.args.kept.now.sections c.loop-number.number (c.group.result.0.now, c.group.result.1.now) c.in_ok-walk.walk c.loop-number.walks.items c.push.new.self.items (map walked c.args.kept.now.sections) c.group.ensures c.loop-number.invariant c.in-Ok.ensures.items c.in_ok-walk.ensures
