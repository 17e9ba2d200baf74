use Rattle.std.proofs.Common.{ap, map}
use Rattle.lk_layout.specs.Grouping.{Group, keys_in}
use Rattle.lk_layout.proofs.ListSteps.{map_step}
use Rattle.lk_layout.proofs.sections.group_keys.Goals as goal

-- one more key is appended
pub loop-number-preserved : goal.loop-number-preserved
loop-number-preserved c =
    map_step (λ (g : Group). g.0) c.args.kept.now.sections c.loop-number.number (c.group.result.0.now, c.group.result.1.now) c.in_ok-copy.field-0 c.loop-number.keys c.push.new.self (keys_in c.args.kept.now.sections) c.group.ensures c.loop-number.invariant c.in_ok-push.ensures.pushed c.in_ok-copy.ensures
