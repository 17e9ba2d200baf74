-- What is written of a relocation with an addend is read back.
use Rattle.std.proofs.Common.{◌≡◌, ℕ, ◌+◌, ◌^◌, ◌<◌, List, ◌++◌, length, refl, arith, ap, ◌∙◌, w64}
use mir.Val.{SFits}
use Rattle.lk_elf.specs.Fields.{bytes_of, num, signed64, unsigned64}
use Rattle.lk_elf.specs.Records.{rela_at, rela_bytes}
use Rattle.lk_elf.specs.declared.relocation.Rela.{Rela}
use Rattle.lk_elf.proofs.Signed.{signed64-unsigned64, unsigned64-lt}
use Rattle.lk_elf.proofs.Writing.{num_back}

-- a relocation with an addend that is between two lists is read back
pub rela_at-rela_bytes : (at : ℕ) (pre post : List ℕ) (relocation : Rela) → length pre ≡ at
    → relocation.r_offset < 2 ^ 64 → relocation.r_info < 2 ^ 64 → SFits w64 relocation.r_addend
    → rela_at (pre ++ rela_bytes relocation ++ post) at ≡ relocation
unfolding rela_at rela_bytes bytes_of
rela_at-rela_bytes at pre post relocation len r_offset-fits r_info-fits r_addend-fits =
    let r_offset-back : num (pre ++ rela_bytes relocation ++ post) at 8 ≡ relocation.r_offset = num_back at 0 at 8 relocation.r_offset pre (rela_bytes relocation) post len (omega arith) refl (omega arith) in
    let r_info-back : num (pre ++ rela_bytes relocation ++ post) (at + 8) 8 ≡ relocation.r_info = num_back at 8 (at + 8) 8 relocation.r_info pre (rela_bytes relocation) post len (omega arith) refl (omega arith) in
    let r_addend-back : signed64 (num (pre ++ rela_bytes relocation ++ post) (at + 16) 8) ≡ relocation.r_addend = ap signed64 (num_back at 16 (at + 16) 8 (unsigned64 relocation.r_addend) pre (rela_bytes relocation) post len (omega arith) refl (unsigned64-lt relocation.r_addend r_addend-fits)) ∙ signed64-unsigned64 relocation.r_addend r_addend-fits in
    rw (r_offset-back, r_info-back, r_addend-back) refl
