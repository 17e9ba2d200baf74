use Rattle.std.proofs.Common.{ap, ◌∙◌, of_z, w64}
use Rattle.std.proofs.lemmas.Int.{to_z-of_z}
use Rattle.lk_elf.proofs.Signed.{unsigned64-of_z}
use Rattle.lk_incr.proofs.input_heads.unsigned_of.Goals as goal

pub returns : goal.returns
returns c = c.cast_unsigned.ensures ∙ ap (of_z w64) (to_z-of_z w64 c.args.time c.ranges.time) ∙ unsigned64-of_z c.args.time
