-- Values and their tests at the edges (psABI x86-64, "Relocation Types").
use Rattle.std.specs.Prelude.{◌≡◌, ℕ, ℤ, pos, negsuc, Bool, true, false, List, [], ◌∷◌, refl}
use Rattle.lk_elf.specs.Fields.{bytes_of, unsigned64}
use Rattle.lk_model.specs.RelocationTypes.{relocation_types, relocation_type_of, width_of}
use Rattle.lk_model.specs.Values.{value_of, fits}
use Rattle.lk_model.specs.declared.layouts.Numbers.{Numbers}

abbrev numbers : ℕ → ℤ → ℕ → ℕ → Numbers
numbers s a p tls_end = record { s = s; a = a; p = p; l = s; slot = 0; got = 0; z = 0; tls_start = 0; tls_end = tls_end }

-- type 32 takes what zeros give back, and nothing more
word_takes : fits 10 0xffffffff ≡ true
unfolding relocation_type_of relocation_types
word_takes = refl

word_refuses : fits 10 0x100000000 ≡ false
unfolding relocation_type_of relocation_types
word_refuses = refl

word_bytes : bytes_of (width_of 10) 0xffffffff ≡ 0xff ∷ 0xff ∷ 0xff ∷ 0xff ∷ []
unfolding relocation_type_of relocation_types width_of bytes_of
word_bytes = refl

-- type 32S takes what the sign gives back
signed_takes : fits 11 0xffffffff80000000 ≡ true
unfolding relocation_type_of relocation_types
signed_takes = refl

signed_refuses : fits 11 0x80000000 ≡ false
unfolding relocation_type_of relocation_types
signed_refuses = refl

signed_bytes : bytes_of (width_of 11) 0xffffffff80000000 ≡ 0 ∷ 0 ∷ 0 ∷ 0x80 ∷ []
unfolding relocation_type_of relocation_types width_of bytes_of
signed_bytes = refl

-- PC32 from 0x401005 to 0x401010 with addend -4
near_call : bytes_of 4 (value_of 2 (numbers 0x401010 (negsuc 3) 0x401005 0)) ≡ 7 ∷ 0 ∷ 0 ∷ 0 ∷ []
unfolding relocation_type_of relocation_types bytes_of unsigned64
near_call = refl

-- 64, PC32 and PC64 on a symbol at 0x401010, from 0x401000, 0x401008 and 0x401018
address : bytes_of 8 (value_of 1 (numbers 0x401010 (pos 0) 0x401000 0)) ≡ 0x10 ∷ 0x10 ∷ 0x40 ∷ 0 ∷ 0 ∷ 0 ∷ 0 ∷ 0 ∷ []
unfolding relocation_type_of relocation_types bytes_of unsigned64
address = refl

distance : bytes_of 4 (value_of 2 (numbers 0x401010 (negsuc 3) 0x401008 0)) ≡ 4 ∷ 0 ∷ 0 ∷ 0 ∷ []
unfolding relocation_type_of relocation_types bytes_of unsigned64
distance = refl

long_distance : bytes_of 8 (value_of 24 (numbers 0x401010 (pos 0) 0x401018 0)) ≡ 0xf8 ∷ 0xff ∷ 0xff ∷ 0xff ∷ 0xff ∷ 0xff ∷ 0xff ∷ 0xff ∷ []
unfolding relocation_type_of relocation_types bytes_of unsigned64
long_distance = refl

-- TPOFF32 on a symbol at 0x405008 where the thread-local block ends at 0x405080
thread_offset : bytes_of 4 (value_of 23 (numbers 0x405008 (pos 0) 0 0x405080)) ≡ 0x88 ∷ 0xff ∷ 0xff ∷ 0xff ∷ []
unfolding relocation_type_of relocation_types bytes_of unsigned64
thread_offset = refl

thread_offset_fits : fits 23 (value_of 23 (numbers 0x405008 (pos 0) 0 0x405080)) ≡ true
unfolding relocation_type_of relocation_types unsigned64
thread_offset_fits = refl
