use Rattle.lk_law_records.proofs.Limits.{limits-make-recordable}
use Rattle.lk_law_records.proofs.laws.limits_make_recordable.Goals as goal

pub returns : goal.returns
returns c = limits-make-recordable
