-- A field of a record holds the low bits of a number that is greater than it (gABI "Data
-- Representation").
use Rattle.std.specs.Prelude.{ℕ, ◌%◌, ◌^◌}

-- what a field of eight bytes holds
abbrev pub low_64 : ℕ → ℕ
low_64 n = n % 2 ^ 64
