-- What is written of a program header is read back.
use Rattle.std.proofs.Common.{◌≡◌, ℕ, ◌+◌, ◌^◌, ◌<◌, List, ◌++◌, length, refl, arith}
use Rattle.lk_elf.specs.Fields.{bytes_of, num}
use Rattle.lk_elf.specs.Records.{phdr_at, phdr_bytes}
use Rattle.lk_elf.specs.declared.program_header.Phdr.{Phdr}
use Rattle.lk_elf.proofs.Writing.{num_back}

-- a program header that is between two lists is read back
pub phdr_at-phdr_bytes : (at : ℕ) (pre post : List ℕ) (header : Phdr) → length pre ≡ at
    → header.p_type < 2 ^ 32 → header.p_flags < 2 ^ 32 → header.p_offset < 2 ^ 64 → header.p_vaddr < 2 ^ 64 → header.p_paddr < 2 ^ 64 → header.p_filesz < 2 ^ 64 → header.p_memsz < 2 ^ 64 → header.p_align < 2 ^ 64
    → phdr_at (pre ++ phdr_bytes header ++ post) at ≡ header
unfolding phdr_at phdr_bytes bytes_of
phdr_at-phdr_bytes at pre post header len p_type-fits p_flags-fits p_offset-fits p_vaddr-fits p_paddr-fits p_filesz-fits p_memsz-fits p_align-fits =
    let p_type-back : num (pre ++ phdr_bytes header ++ post) at 4 ≡ header.p_type = num_back at 0 at 4 header.p_type pre (phdr_bytes header) post len (omega arith) refl (omega arith) in
    let p_flags-back : num (pre ++ phdr_bytes header ++ post) (at + 4) 4 ≡ header.p_flags = num_back at 4 (at + 4) 4 header.p_flags pre (phdr_bytes header) post len (omega arith) refl (omega arith) in
    let p_offset-back : num (pre ++ phdr_bytes header ++ post) (at + 8) 8 ≡ header.p_offset = num_back at 8 (at + 8) 8 header.p_offset pre (phdr_bytes header) post len (omega arith) refl (omega arith) in
    let p_vaddr-back : num (pre ++ phdr_bytes header ++ post) (at + 16) 8 ≡ header.p_vaddr = num_back at 16 (at + 16) 8 header.p_vaddr pre (phdr_bytes header) post len (omega arith) refl (omega arith) in
    let p_paddr-back : num (pre ++ phdr_bytes header ++ post) (at + 24) 8 ≡ header.p_paddr = num_back at 24 (at + 24) 8 header.p_paddr pre (phdr_bytes header) post len (omega arith) refl (omega arith) in
    let p_filesz-back : num (pre ++ phdr_bytes header ++ post) (at + 32) 8 ≡ header.p_filesz = num_back at 32 (at + 32) 8 header.p_filesz pre (phdr_bytes header) post len (omega arith) refl (omega arith) in
    let p_memsz-back : num (pre ++ phdr_bytes header ++ post) (at + 40) 8 ≡ header.p_memsz = num_back at 40 (at + 40) 8 header.p_memsz pre (phdr_bytes header) post len (omega arith) refl (omega arith) in
    let p_align-back : num (pre ++ phdr_bytes header ++ post) (at + 48) 8 ≡ header.p_align = num_back at 48 (at + 48) 8 header.p_align pre (phdr_bytes header) post len (omega arith) refl (omega arith) in
    rw (p_type-back, p_flags-back, p_offset-back, p_vaddr-back, p_paddr-back, p_filesz-back, p_memsz-back, p_align-back) refl
