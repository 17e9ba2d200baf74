use Rattle.lk_scan.proofs.NamesSeen.{one_more}
use Rattle.lk_scan.proofs.name_meanings.NameMeanings.of.Goals as goal

pub loop-number-preserved : goal.loop-number-preserved
loop-number-preserved c =
    one_more c.args.names.now c.loop-number.number c.loop-number.targets.items c.push.new.self.items c.name_target.result c.loop-number.invariant c.in-Ok.ensures.items c.name_target.ensures
