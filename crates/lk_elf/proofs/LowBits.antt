-- The bytes of a field are those of the low bits of its number (gABI "Data Representation").
use Rattle.std.proofs.Common.{◌≡◌, ℕ, zero, suc, ◌+◌, ◌*◌, ◌/◌, ◌%◌, ◌^◌, ◌<◌, ◌≤◌, ◌∷◌, take, refl, ap, arith}
use Rattle.std.proofs.Math.Nat.{pow-suc}
use Rattle.std.proofs.Math.Arith.{mod-mul}
use Rattle.lk_elf.specs.Fields.{bytes_of}

-- the lowest bytes
pub take-bytes_of : (w k n : ℕ) → w ≤ k → take w (bytes_of k n) ≡ bytes_of w n
unfolding bytes_of
take-bytes_of zero k n h = refl
take-bytes_of (suc w) zero n h = absurd (omega arith)
take-bytes_of (suc w) (suc k) n h = ap (λ l. n % 256 ∷ l) (take-bytes_of w k (n / 256) (omega arith))

-- the lowest byte of the low bits, and the low bits of the rest
low-first : (n m : ℕ) → 0 < m → n % (m * 256) % 256 ≡ n % 256
low-first n m h = let e : n % (m * 256) ≡ (n / 256 % m) * 256 + n % 256 = mod-mul n h (omega arith) in omega (arith, e)

low-rest : (n m : ℕ) → 0 < m → n % (m * 256) / 256 ≡ n / 256 % m
low-rest n m h = let e : n % (m * 256) ≡ (n / 256 % m) * 256 + n % 256 = mod-mul n h (omega arith) in omega (arith, e)

above_zero : (w : ℕ) → 0 < 256 ^ w
above_zero zero = omega arith
above_zero (suc w) = let e = pow-suc 256 w in let h = above_zero w in omega (arith, e, h)

pub low-bytes : (w n : ℕ) → bytes_of w (n % 256 ^ w) ≡ bytes_of w n
unfolding bytes_of
low-bytes zero n = refl
low-bytes (suc w) n =
    let power : 256 ^ suc w ≡ 256 ^ w * 256 = pow-suc 256 w in
    let first = low-first n (256 ^ w) (above_zero w) in
    let more = low-rest n (256 ^ w) (above_zero w) in
    let rest = low-bytes w (n / 256) in
    rw (power, first, more, rest) refl

pub low-long : (n : ℕ) → bytes_of 8 (n % 2 ^ 64) ≡ bytes_of 8 n
low-long n = low-bytes 8 n

pub low-word : (n : ℕ) → bytes_of 4 (n % 2 ^ 32) ≡ bytes_of 4 n
low-word n = low-bytes 4 n

pub low-half : (n : ℕ) → bytes_of 2 (n % 2 ^ 16) ≡ bytes_of 2 n
low-half n = low-bytes 2 n
