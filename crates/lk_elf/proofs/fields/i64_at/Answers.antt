use Rattle.std.proofs.Common.{ap, ◌∙◌, ℤ, to_z, of_z, w64}
use Rattle.std.proofs.lemmas.Int.{of_z-to_z}
use Rattle.lk_elf.specs.Fields.{signed64}
use Rattle.lk_elf.proofs.Signed.{signed64-to_z}
use Rattle.lk_elf.proofs.fields.i64_at.Goals as goal

pub returns : goal.returns
returns c =
    ap (λ (z : ℤ). to_z w64 (of_z w64 z)) c.cast_signed.ensures
    ∙ ap (to_z w64) (of_z-to_z w64 c.u64_at.result c.u64_at.type_inv)
    ∙ signed64-to_z c.u64_at.result c.u64_at.type_inv
    ∙ ap signed64 c.u64_at.ensures
