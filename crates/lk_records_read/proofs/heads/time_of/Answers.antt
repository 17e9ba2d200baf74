use Rattle.std.proofs.Common.{ap, ◌∙◌, ℤ, to_z, of_z, w64}
use Rattle.std.proofs.lemmas.Int.{of_z-to_z}
use Rattle.lk_elf.proofs.Signed.{signed64-to_z}
use Rattle.lk_records_read.proofs.heads.time_of.Goals as goal

pub returns : goal.returns
returns c =
    ap (λ (z : ℤ). to_z w64 (of_z w64 z)) c.cast_signed.ensures
    ∙ ap (to_z w64) (of_z-to_z w64 c.args.time c.ranges.time.fits)
    ∙ signed64-to_z c.args.time c.ranges.time.fits
