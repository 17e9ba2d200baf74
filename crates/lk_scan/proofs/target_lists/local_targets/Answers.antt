use Rattle.lk_model.specs.Elf.{elf_of}
use Rattle.lk_scan.proofs.TargetsListed.{local_more}
use Rattle.lk_scan.proofs.target_lists.local_targets.Goals as goal

pub loop-symbol-preserved : goal.loop-symbol-preserved
loop-symbol-preserved c =
    local_more c.args.resolution.now (elf_of c.args.object.now) c.args.input c.loop-symbol.symbol c.loop-symbol.targets.items c.push.new.self.items c.local_target-target.result c.loop-symbol.invariant c.in-Ok-push.ensures.items c.local_target-target.ensures
