-- What is written of an entry of the dynamic section is read back.
use Rattle.std.proofs.Common.{◌≡◌, ℕ, ◌+◌, ◌^◌, ◌<◌, List, ◌++◌, length, refl, arith, ap, ◌∙◌, w64}
use mir.Val.{SFits}
use Rattle.lk_elf.specs.Fields.{bytes_of, num, signed64, unsigned64}
use Rattle.lk_elf.specs.Records.{dyn_at, dyn_bytes}
use Rattle.lk_elf.specs.declared.dynamic_entry.Dyn.{Dyn}
use Rattle.lk_elf.proofs.Signed.{signed64-unsigned64, unsigned64-lt}
use Rattle.lk_elf.proofs.Writing.{num_back}

-- an entry of the dynamic section that is between two lists is read back
pub dyn_at-dyn_bytes : (at : ℕ) (pre post : List ℕ) (entry : Dyn) → length pre ≡ at
    → SFits w64 entry.d_tag → entry.d_un < 2 ^ 64
    → dyn_at (pre ++ dyn_bytes entry ++ post) at ≡ entry
unfolding dyn_at dyn_bytes bytes_of
dyn_at-dyn_bytes at pre post entry len d_tag-fits d_un-fits =
    let d_tag-back : signed64 (num (pre ++ dyn_bytes entry ++ post) at 8) ≡ entry.d_tag = ap signed64 (num_back at 0 at 8 (unsigned64 entry.d_tag) pre (dyn_bytes entry) post len (omega arith) refl (unsigned64-lt entry.d_tag d_tag-fits)) ∙ signed64-unsigned64 entry.d_tag d_tag-fits in
    let d_un-back : num (pre ++ dyn_bytes entry ++ post) (at + 8) 8 ≡ entry.d_un = num_back at 8 (at + 8) 8 entry.d_un pre (dyn_bytes entry) post len (omega arith) refl (omega arith) in
    rw (d_tag-back, d_un-back) refl
