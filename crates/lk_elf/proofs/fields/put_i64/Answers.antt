use Rattle.std.proofs.Common.{◌≡◌, ap, ◌∙◌, of_z, w64}
use Rattle.std.proofs.lemmas.Int.{to_z-of_z}
use Rattle.lk_elf.specs.Fields.{unsigned64}
use Rattle.lk_elf.proofs.Signed.{unsigned64-of_z}
use Rattle.lk_elf.proofs.fields.put_i64.Goals as goal

pub returns : goal.returns
returns c =
    let same : c.cast_unsigned.result ≡ unsigned64 c.args.n =
    c.cast_unsigned.ensures ∙ ap (of_z w64) (to_z-of_z w64 c.args.n c.ranges.n) ∙ unsigned64-of_z c.args.n in
    rw (← same) c.put_u64.ensures
