-- What a field gives back when it is read and extended to 64 bits (psABI x86-64, "Relocation Types": a
-- field that is too narrow for a value is reported by the linker).
use Rattle.std.specs.Prelude.{◌≡◌, ◌↔◌, ℕ, ◌+◌, ◌-◌, ◌*◌, ◌^◌, ◌<◌, ◌≤◌, true, nat_lt, if◌then◌else◌}
use Rattle.lk_elf.specs.Fields.{bytes_of, number_of}
use Rattle.lk_model.specs.Values.{fits_by_sign, fits_by_zeros}

-- a field of so many bytes with the low bytes of a value, extended by zeros
abbrev pub by_zeros : ℕ → ℕ → ℕ
by_zeros width v = number_of (bytes_of width v)

-- the same field, extended by its highest bit
abbrev pub by_sign : ℕ → ℕ → ℕ
by_sign width v =
    if nat_lt (by_zeros width v) (2 ^ (8 * width - 1)) then by_zeros width v
    else by_zeros width v + (2 ^ 64 - 2 ^ (8 * width))

-- a value passes the test of zeros exactly where its field, extended by zeros, is the value
abbrev pub ZerosGiveBack : Type 0
ZerosGiveBack = (width v : ℕ) → 0 < width → width ≤ 4 → v < 2 ^ 64 → (fits_by_zeros width v ≡ true) ↔ (by_zeros width v ≡ v)

-- a value passes the test of the sign exactly where its field, extended by its sign, is the value
abbrev pub SignGivesBack : Type 0
SignGivesBack = (width v : ℕ) → 0 < width → width ≤ 4 → v < 2 ^ 64 → (fits_by_sign width v ≡ true) ↔ (by_sign width v ≡ v)

-- a field of eight bytes holds every value
abbrev pub WholeGivesBack : Type 0
WholeGivesBack = (v : ℕ) → v < 2 ^ 64 → by_zeros 8 v ≡ v
