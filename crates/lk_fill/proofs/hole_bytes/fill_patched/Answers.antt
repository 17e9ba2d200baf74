use Rattle.std.proofs.Common.{length, ◌∙◌}
use Rattle.lk_fill.proofs.HolesFilled.{fill_whole}
use Rattle.lk_fill.proofs.hole_bytes.fill_patched.Goals as goal

pub returns : goal.returns
returns c = λ enough short. c.fill.ensures ∙ fill_whole c.args.kind (length c.args.bytes.now) enough
