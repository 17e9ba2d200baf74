-- The numbers of `byteorder` in its little-endian order are the fields of a record, at every width; and what is written is read back.
use Rattle.std.proofs.Common.{◌≡◌, ℕ, zero, suc, ◌/◌, ◌%◌, ◌^◌, ◌≤◌, List, [], ◌∷◌, length, take, refl, sym, ap, ◌∙◌, arith}
use Rattle.std.proofs.Math.Nat.{div-one, div-div-eq-div-mul, pow-suc}
use Rattle.std.specs.Int.{byte_at, bytes_low_first}
use Rattle.byteorder.specs.Endian.{little_from}
use Rattle.byteorder.specs.Numbers.{little_from-cons}
use Rattle.lk_elf.specs.Fields.{bytes_of, number_of}

-- the number in the first w bytes
pub little_from-number_of : (w : ℕ) (bytes : List ℕ) → w ≤ length bytes → little_from 0 w bytes ≡ number_of (take w bytes)
unfolding number_of
little_from-number_of zero bytes h = refl
little_from-number_of (suc w) [] h = absurd (omega arith)
little_from-number_of (suc w) (b ∷ bs) h =
    let moved = little_from-cons 0 w b bs in
    let rest = little_from-number_of w bs (omega arith) in
    rw (moved, rest) refl

-- a byte of a number, by its place
byte_at-pow : (i n : ℕ) → byte_at i n ≡ n / 256 ^ i % 256
byte_at-pow zero n = ap (λ (m : ℕ). m % 256) (sym (div-one n))
byte_at-pow (suc i) n = refl

-- the bytes from the place i on are those of the number above them
bytes_low_first-bytes_of : (w i n : ℕ) → bytes_low_first i w n ≡ bytes_of w (n / 256 ^ i)
unfolding bytes_of
bytes_low_first-bytes_of zero i n = refl
bytes_low_first-bytes_of (suc w) i n =
    let shift : n / 256 ^ suc i ≡ n / 256 ^ i / 256 = ap (λ (p : ℕ). n / p) (pow-suc 256 i) ∙ sym (div-div-eq-div-mul n (256 ^ i) 256) in
    let rest = bytes_low_first-bytes_of w (suc i) n in
    rw (byte_at-pow i n, rest, shift) refl

-- the lowest w bytes of a number
pub little_bytes-bytes_of : (w n : ℕ) → bytes_low_first 0 w n ≡ bytes_of w n
little_bytes-bytes_of w n = bytes_low_first-bytes_of w 0 n ∙ ap (bytes_of w) (div-one n)

-- there are w bytes
pub length-bytes_of : (w n : ℕ) → length (bytes_of w n) ≡ w
unfolding bytes_of
length-bytes_of zero n = refl
length-bytes_of (suc w) n = let e = length-bytes_of w (n / 256) in omega (arith, e)
