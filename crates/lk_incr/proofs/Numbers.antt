-- The lowest bytes of a number.
use Rattle.std.proofs.Common.{◌≡◌, ℕ, zero, suc, ◌≤◌, ◌%◌, ◌/◌, ◌∷◌, take, refl, ap, arith}
use Rattle.lk_elf.specs.Fields.{bytes_of}

pub take-bytes_of : (w k n : ℕ) → w ≤ k → take w (bytes_of k n) ≡ bytes_of w n
unfolding bytes_of
take-bytes_of zero k n h = refl
take-bytes_of (suc w) zero n h = absurd (omega arith)
take-bytes_of (suc w) (suc k) n h = ap (λ l. n % 256 ∷ l) (take-bytes_of w k (n / 256) (omega arith))
