use Rattle.lk_probe.proofs.reading.judged.Goals as goal

pub returns-in-Ok-Object : goal.returns-in-Ok-Object
returns-in-Ok-Object c = c.judged_object.ensures c.args.path.now
