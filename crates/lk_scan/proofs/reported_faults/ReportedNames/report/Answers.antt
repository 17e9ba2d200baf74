use Rattle.lk_scan.proofs.OncePerName.{index_stays}
use Rattle.lk_scan.proofs.reported_faults.ReportedNames.report.Goals as goal

pub invariant_of-self-2 : goal.invariant_of-self-2
invariant_of-self-2 c =
    index_stays c.self.inside.faults c.push.new.self c.self.inside.undefined.keys c.self.inside.copied.keys c.args.fault c.self.invariant c.requires.undefined c.requires.copied c.in_ok-push.ensures.pushed
