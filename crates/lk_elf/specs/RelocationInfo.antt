-- What `r_info` of a relocation says (gABI "Relocation": ELF64_R_SYM, ELF64_R_TYPE, ELF64_R_INFO).
use Rattle.std.specs.Prelude.{ℕ, ◌+◌, ◌*◌, ◌/◌, ◌%◌, ◌^◌}
use Rattle.lk_elf.specs.declared.relocation.Rela.{Rela}

-- the number of its symbol
abbrev pub r_symbol_of : Rela → ℕ
r_symbol_of rela = rela.r_info / 2 ^ 32

-- its type
abbrev pub r_type_of : Rela → ℕ
r_type_of rela = rela.r_info % 2 ^ 32

-- the field that has both
abbrev pub r_info_of : ℕ → ℕ → ℕ
r_info_of symbol r_type = symbol * 2 ^ 32 + r_type
