-- What is written of a symbol is read back.
use Rattle.std.proofs.Common.{◌≡◌, ℕ, ◌+◌, ◌^◌, ◌<◌, List, ◌++◌, length, refl, arith}
use Rattle.lk_elf.specs.Fields.{bytes_of, num}
use Rattle.lk_elf.specs.Records.{sym_at, sym_bytes}
use Rattle.lk_elf.specs.declared.symbol.Sym.{Sym}
use Rattle.lk_elf.proofs.Writing.{num_back}

-- a symbol that is between two lists is read back
pub sym_at-sym_bytes : (at : ℕ) (pre post : List ℕ) (symbol : Sym) → length pre ≡ at
    → symbol.st_name < 2 ^ 32 → symbol.st_info < 2 ^ 8 → symbol.st_other < 2 ^ 8 → symbol.st_shndx < 2 ^ 16 → symbol.st_value < 2 ^ 64 → symbol.st_size < 2 ^ 64
    → sym_at (pre ++ sym_bytes symbol ++ post) at ≡ symbol
unfolding sym_at sym_bytes bytes_of
sym_at-sym_bytes at pre post symbol len st_name-fits st_info-fits st_other-fits st_shndx-fits st_value-fits st_size-fits =
    let st_name-back : num (pre ++ sym_bytes symbol ++ post) at 4 ≡ symbol.st_name = num_back at 0 at 4 symbol.st_name pre (sym_bytes symbol) post len (omega arith) refl (omega arith) in
    let st_info-back : num (pre ++ sym_bytes symbol ++ post) (at + 4) 1 ≡ symbol.st_info = num_back at 4 (at + 4) 1 symbol.st_info pre (sym_bytes symbol) post len (omega arith) refl (omega arith) in
    let st_other-back : num (pre ++ sym_bytes symbol ++ post) (at + 5) 1 ≡ symbol.st_other = num_back at 5 (at + 5) 1 symbol.st_other pre (sym_bytes symbol) post len (omega arith) refl (omega arith) in
    let st_shndx-back : num (pre ++ sym_bytes symbol ++ post) (at + 6) 2 ≡ symbol.st_shndx = num_back at 6 (at + 6) 2 symbol.st_shndx pre (sym_bytes symbol) post len (omega arith) refl (omega arith) in
    let st_value-back : num (pre ++ sym_bytes symbol ++ post) (at + 8) 8 ≡ symbol.st_value = num_back at 8 (at + 8) 8 symbol.st_value pre (sym_bytes symbol) post len (omega arith) refl (omega arith) in
    let st_size-back : num (pre ++ sym_bytes symbol ++ post) (at + 16) 8 ≡ symbol.st_size = num_back at 16 (at + 16) 8 symbol.st_size pre (sym_bytes symbol) post len (omega arith) refl (omega arith) in
    rw (st_name-back, st_info-back, st_other-back, st_shndx-back, st_value-back, st_size-back) refl
