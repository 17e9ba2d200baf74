-- What kinds of reference the relocation types are (psABI x86-64, "Relocation Types").
use Rattle.std.specs.Prelude.{ℕ, ◌==◌, Bool, ◌&&◌, not, [], ◌∷◌}
use Rattle.lk_model.specs.Numbered.{is_number_in}

abbrev pub r_x86_64_none : ℕ
r_x86_64_none = 0

abbrev pub r_x86_64_64 : ℕ
r_x86_64_64 = 1

abbrev pub r_x86_64_pc32 : ℕ
r_x86_64_pc32 = 2

abbrev pub r_x86_64_plt32 : ℕ
r_x86_64_plt32 = 4

abbrev pub r_x86_64_gotpcrel : ℕ
r_x86_64_gotpcrel = 9

abbrev pub r_x86_64_32 : ℕ
r_x86_64_32 = 10

abbrev pub r_x86_64_32s : ℕ
r_x86_64_32s = 11

abbrev pub r_x86_64_16 : ℕ
r_x86_64_16 = 12

abbrev pub r_x86_64_pc16 : ℕ
r_x86_64_pc16 = 13

abbrev pub r_x86_64_8 : ℕ
r_x86_64_8 = 14

abbrev pub r_x86_64_pc8 : ℕ
r_x86_64_pc8 = 15

abbrev pub r_x86_64_dtpoff64 : ℕ
r_x86_64_dtpoff64 = 17

abbrev pub r_x86_64_tpoff64 : ℕ
r_x86_64_tpoff64 = 18

abbrev pub r_x86_64_dtpoff32 : ℕ
r_x86_64_dtpoff32 = 21

abbrev pub r_x86_64_gottpoff : ℕ
r_x86_64_gottpoff = 22

abbrev pub r_x86_64_tpoff32 : ℕ
r_x86_64_tpoff32 = 23

abbrev pub r_x86_64_pc64 : ℕ
r_x86_64_pc64 = 24

abbrev pub r_x86_64_gotoff64 : ℕ
r_x86_64_gotoff64 = 25

abbrev pub r_x86_64_size32 : ℕ
r_x86_64_size32 = 32

abbrev pub r_x86_64_size64 : ℕ
r_x86_64_size64 = 33

abbrev pub r_x86_64_gotpcrelx : ℕ
r_x86_64_gotpcrelx = 41

abbrev pub r_x86_64_rex_gotpcrelx : ℕ
r_x86_64_rex_gotpcrelx = 42

-- whether a type goes through an address slot of the GOT
abbrev pub is_got_form : ℕ → Bool
is_got_form code = is_number_in (r_x86_64_gotpcrel ∷ r_x86_64_gotpcrelx ∷ r_x86_64_rex_gotpcrelx ∷ []) code

-- whether a type is the offset of a thread-local symbol in its module's block
abbrev pub is_block_offset : ℕ → Bool
is_block_offset code = is_number_in (r_x86_64_dtpoff64 ∷ r_x86_64_dtpoff32 ∷ []) code

-- whether a type is the offset of a thread-local symbol from the thread pointer
abbrev pub is_thread_offset : ℕ → Bool
is_thread_offset code = is_number_in (r_x86_64_tpoff64 ∷ r_x86_64_tpoff32 ∷ []) code

-- whether a type speaks of a thread-local symbol
abbrev pub is_thread_form : ℕ → Bool
is_thread_form code = is_number_in (r_x86_64_dtpoff64 ∷ r_x86_64_tpoff64 ∷ r_x86_64_dtpoff32 ∷ r_x86_64_gottpoff ∷ r_x86_64_tpoff32 ∷ []) code

-- whether a type is a symbol's size
abbrev pub is_size_form : ℕ → Bool
is_size_form code = is_number_in (r_x86_64_size32 ∷ r_x86_64_size64 ∷ []) code

-- whether a type holds a symbol's address, or that of its PLT entry, without a slot
abbrev pub is_direct_form : ℕ → Bool
is_direct_form code = is_number_in
    (r_x86_64_64 ∷ r_x86_64_pc32 ∷ r_x86_64_plt32 ∷ r_x86_64_32 ∷ r_x86_64_32s ∷ r_x86_64_16 ∷ r_x86_64_pc16 ∷ r_x86_64_8 ∷ r_x86_64_pc8 ∷ r_x86_64_pc64 ∷ r_x86_64_gotoff64 ∷ [])
    code

-- whether a type holds a symbol's own address
abbrev pub is_address_form : ℕ → Bool
is_address_form code = is_direct_form code && not (code == r_x86_64_plt32)
