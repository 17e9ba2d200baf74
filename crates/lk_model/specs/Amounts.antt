-- Numbers that many definitions use: sums modulo 2^64, multiples, powers of two.
use Rattle.std.specs.Prelude.{ℕ, ◌+◌, ◌-◌, ◌*◌, ◌/◌, ◌%◌, ◌^◌, ◌==◌, Bool, List, [], ◌∷◌}
use Rattle.std.specs.List.{list_any}

-- a sum modulo 2^64
abbrev pub plus : ℕ → ℕ → ℕ
plus a b = (a + b) % 2 ^ 64

-- a difference modulo 2^64
abbrev pub minus : ℕ → ℕ → ℕ
minus a b = (a + (2 ^ 64 - b % 2 ^ 64)) % 2 ^ 64

-- the least multiple of a number above 0 that is not below n
abbrev pub round_up : ℕ → ℕ → ℕ
round_up n align = ((n + (align - 1)) / align) * align

-- the powers of two up to 2^20, which alignments of input sections are
abbrev pub small_powers : List ℕ
small_powers = 1 ∷ 2 ∷ 4 ∷ 8 ∷ 16 ∷ 32 ∷ 64 ∷ 128 ∷ 256 ∷ 512 ∷ 1024 ∷ 2048 ∷ 4096 ∷ 8192 ∷ 16384 ∷ 32768 ∷ 65536 ∷ 131072 ∷ 262144 ∷ 524288 ∷ 1048576 ∷ []

-- a power of two up to 2^20
abbrev pub is_small_power : ℕ → Bool
is_small_power n = list_any (λ p. n == p) small_powers

-- whether a flag, a power of two, is set
abbrev pub has_flag : ℕ → ℕ → Bool
has_flag flags flag = (flags / flag) % 2 == 1
