-- The fields of an ELF record (gABI "Data Representation", byte order ELFDATA2LSB): a field of w bytes is the little-endian number in them.
use Rattle.std.specs.Prelude.{ℕ, zero, suc, ◌+◌, ◌*◌, ◌/◌, ◌%◌, ◌^◌, ◌-◌, ℤ, pos, negsuc, ◌-ℤ◌, nat_lt, if◌then◌else◌, List, [], ◌∷◌, take, drop}

-- the number whose bytes these are, the lowest first
unfoldable pub number_of : List ℕ → ℕ
number_of [] = 0
number_of (b ∷ bs) = b + 256 * number_of bs

-- the lowest bytes of a number, as many as the width says, the lowest first
unfoldable pub bytes_of : ℕ → ℕ → List ℕ
bytes_of zero n = []
bytes_of (suc w) n = n % 256 ∷ bytes_of w (n / 256)

-- the number in the w bytes at `at`
unfoldable pub num : List ℕ → ℕ → ℕ → ℕ
num bytes at w = number_of (take w (drop at bytes))

-- a field of eight bytes as two's complement (gABI "Data Representation", Elf64_Sxword)
unfoldable pub signed64 : ℕ → ℤ
signed64 n = if nat_lt n (2 ^ 63) then pos n else pos n -ℤ pos (2 ^ 64)

-- the field of eight bytes that is a number from -2^63 to 2^63 - 1 as two's complement
unfoldable pub unsigned64 : ℤ → ℕ
unsigned64 (pos n) = n
unsigned64 (negsuc n) = 2 ^ 64 - suc n
