use Rattle.lk_model.proofs.StretchLawProofs.{laid-out-is_at}
use Rattle.lk_model.proofs.laws.laid_out_is_at.Goals as goal

pub returns : goal.returns
returns c = laid-out-is_at
