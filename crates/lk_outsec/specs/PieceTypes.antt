-- Which sections can be pieces at all, by type and flags (gABI "Sections", sh_type and sh_flags): whatever its
-- name is, no other section is one.
use Rattle.std.specs.Prelude.{ℕ, ◌==◌, Bool, not, ◌&&◌, ◌||◌}
use Rattle.lk_elf.specs.Numbers.{sht_progbits, shf_alloc}
use Rattle.lk_model.specs.Amounts.{has_flag}
use Rattle.lk_model.specs.Pieces.{is_reading_type}

-- a section of this type with these flags can be a piece
abbrev pub may_be_piece : ℕ → ℕ → Bool
may_be_piece code flags = not (is_reading_type code) && (has_flag flags shf_alloc || code == sht_progbits)
