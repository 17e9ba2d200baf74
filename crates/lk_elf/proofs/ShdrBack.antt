-- What is written of a section header is read back.
use Rattle.std.proofs.Common.{◌≡◌, ℕ, ◌+◌, ◌^◌, ◌<◌, List, ◌++◌, length, refl, arith}
use Rattle.lk_elf.specs.Fields.{bytes_of, num}
use Rattle.lk_elf.specs.Records.{shdr_at, shdr_bytes}
use Rattle.lk_elf.specs.declared.section_header.Shdr.{Shdr}
use Rattle.lk_elf.proofs.Writing.{num_back}

-- a section header that is between two lists is read back
pub shdr_at-shdr_bytes : (at : ℕ) (pre post : List ℕ) (header : Shdr) → length pre ≡ at
    → header.sh_name < 2 ^ 32 → header.sh_type < 2 ^ 32 → header.sh_flags < 2 ^ 64 → header.sh_addr < 2 ^ 64 → header.sh_offset < 2 ^ 64 → header.sh_size < 2 ^ 64 → header.sh_link < 2 ^ 32 → header.sh_info < 2 ^ 32 → header.sh_addralign < 2 ^ 64 → header.sh_entsize < 2 ^ 64
    → shdr_at (pre ++ shdr_bytes header ++ post) at ≡ header
unfolding shdr_at shdr_bytes bytes_of
shdr_at-shdr_bytes at pre post header len sh_name-fits sh_type-fits sh_flags-fits sh_addr-fits sh_offset-fits sh_size-fits sh_link-fits sh_info-fits sh_addralign-fits sh_entsize-fits =
    let sh_name-back : num (pre ++ shdr_bytes header ++ post) at 4 ≡ header.sh_name = num_back at 0 at 4 header.sh_name pre (shdr_bytes header) post len (omega arith) refl (omega arith) in
    let sh_type-back : num (pre ++ shdr_bytes header ++ post) (at + 4) 4 ≡ header.sh_type = num_back at 4 (at + 4) 4 header.sh_type pre (shdr_bytes header) post len (omega arith) refl (omega arith) in
    let sh_flags-back : num (pre ++ shdr_bytes header ++ post) (at + 8) 8 ≡ header.sh_flags = num_back at 8 (at + 8) 8 header.sh_flags pre (shdr_bytes header) post len (omega arith) refl (omega arith) in
    let sh_addr-back : num (pre ++ shdr_bytes header ++ post) (at + 16) 8 ≡ header.sh_addr = num_back at 16 (at + 16) 8 header.sh_addr pre (shdr_bytes header) post len (omega arith) refl (omega arith) in
    let sh_offset-back : num (pre ++ shdr_bytes header ++ post) (at + 24) 8 ≡ header.sh_offset = num_back at 24 (at + 24) 8 header.sh_offset pre (shdr_bytes header) post len (omega arith) refl (omega arith) in
    let sh_size-back : num (pre ++ shdr_bytes header ++ post) (at + 32) 8 ≡ header.sh_size = num_back at 32 (at + 32) 8 header.sh_size pre (shdr_bytes header) post len (omega arith) refl (omega arith) in
    let sh_link-back : num (pre ++ shdr_bytes header ++ post) (at + 40) 4 ≡ header.sh_link = num_back at 40 (at + 40) 4 header.sh_link pre (shdr_bytes header) post len (omega arith) refl (omega arith) in
    let sh_info-back : num (pre ++ shdr_bytes header ++ post) (at + 44) 4 ≡ header.sh_info = num_back at 44 (at + 44) 4 header.sh_info pre (shdr_bytes header) post len (omega arith) refl (omega arith) in
    let sh_addralign-back : num (pre ++ shdr_bytes header ++ post) (at + 48) 8 ≡ header.sh_addralign = num_back at 48 (at + 48) 8 header.sh_addralign pre (shdr_bytes header) post len (omega arith) refl (omega arith) in
    let sh_entsize-back : num (pre ++ shdr_bytes header ++ post) (at + 56) 8 ≡ header.sh_entsize = num_back at 56 (at + 56) 8 header.sh_entsize pre (shdr_bytes header) post len (omega arith) refl (omega arith) in
    rw (sh_name-back, sh_type-back, sh_flags-back, sh_addr-back, sh_offset-back, sh_size-back, sh_link-back, sh_info-back, sh_addralign-back, sh_entsize-back) refl
