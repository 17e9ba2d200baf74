-- A field of eight bytes as two's complement: the definitions here, the casts of the code, and the way there and back.
use Rattle.std.proofs.Common.{◌≡◌, ℕ, ◌^◌, ◌<◌, ℤ, pos, negsuc, refl, sym, ap, ◌∙◌, arith, to_z, of_z, w64, Fits}
use Rattle.std.proofs.Math.Facts.{Fits-of_z}
use Rattle.std.proofs.lemmas.Int.{ints, to_z-of_z}
use Rattle.lk_elf.specs.Fields.{signed64, unsigned64}
use mir.Val.{SFits}

-- the cast to a signed number
pub signed64-to_z : (n : ℕ) → n < 2 ^ 64 → to_z w64 n ≡ signed64 n
unfolding signed64
signed64-to_z n fits = grind (arith, ints)

-- the cast of a signed number
pub unsigned64-of_z : (z : ℤ) → of_z w64 z ≡ unsigned64 z
unfolding unsigned64
unsigned64-of_z (pos n) = refl
unsigned64-of_z (negsuc n) = refl

-- the field fits in eight bytes
pub unsigned64-lt : (z : ℤ) → SFits w64 z → unsigned64 z < 2 ^ 64
unsigned64-lt z fits = let f : Fits w64 (of_z w64 z) = Fits-of_z fits in let e = unsigned64-of_z z in omega arith

-- a signed number is read back from its field
pub signed64-unsigned64 : (z : ℤ) → SFits w64 z → signed64 (unsigned64 z) ≡ z
signed64-unsigned64 z fits =
    sym (signed64-to_z (unsigned64 z) (unsigned64-lt z fits)) ∙ ap (to_z w64) (sym (unsigned64-of_z z)) ∙ to_z-of_z w64 z fits
