use Rattle.lk_model.proofs.StretchLawProofs.{patch-keeps}
use Rattle.lk_model.proofs.laws.patch_keeps.Goals as goal

pub returns : goal.returns
returns c = patch-keeps
