-- An addend as a number modulo 2^64.
use Rattle.std.specs.Prelude.{◌≡◌, ℤ}
use Rattle.std.proofs.Common.{of_z, w64}
use Rattle.lk_elf.specs.Fields.{unsigned64}
use Rattle.lk_elf.proofs.Signed.{unsigned64-of_z}

pub cast_addend : (a : ℤ) → of_z w64 a ≡ unsigned64 a
cast_addend a = unsigned64-of_z a
