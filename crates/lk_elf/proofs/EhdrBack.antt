-- What is written of the header of a file is read back.
use Rattle.std.proofs.Common.{◌≡◌, ℕ, ◌+◌, ◌^◌, ◌<◌, List, ◌++◌, length, take, drop, refl, arith, ap, ◌∙◌, append_assoc, length-append}
use Rattle.std.proofs.lemmas.List.{drop_at, take_at}
use Rattle.lk_elf.specs.Fields.{bytes_of, num}
use Rattle.lk_elf.specs.Records.{ehdr_at, ehdr_bytes}
use Rattle.lk_elf.specs.declared.file_header.Ehdr.{Ehdr}
use Rattle.lk_elf.proofs.Writing.{num_back}

-- the bytes after the identification
unfoldable numbers_bytes : Ehdr → List ℕ
numbers_bytes header =
    bytes_of 2 header.e_type
    ++ bytes_of 2 header.e_machine
    ++ bytes_of 4 header.e_version
    ++ bytes_of 8 header.e_entry
    ++ bytes_of 8 header.e_phoff
    ++ bytes_of 8 header.e_shoff
    ++ bytes_of 4 header.e_flags
    ++ bytes_of 2 header.e_ehsize
    ++ bytes_of 2 header.e_phentsize
    ++ bytes_of 2 header.e_phnum
    ++ bytes_of 2 header.e_shentsize
    ++ bytes_of 2 header.e_shnum
    ++ bytes_of 2 header.e_shstrndx

-- the identification is in front of the other fields
ident_first : (pre post : List ℕ) (header : Ehdr) → pre ++ ehdr_bytes header ++ post ≡ (pre ++ header.e_ident) ++ numbers_bytes header ++ post
unfolding ehdr_bytes numbers_bytes
ident_first pre post header = simp append_assoc

-- the header of a file that is between two lists is read back
pub ehdr_at-ehdr_bytes : (at : ℕ) (pre post : List ℕ) (header : Ehdr) → length pre ≡ at → length header.e_ident ≡ 16
    → header.e_type < 2 ^ 16 → header.e_machine < 2 ^ 16 → header.e_version < 2 ^ 32 → header.e_entry < 2 ^ 64 → header.e_phoff < 2 ^ 64 → header.e_shoff < 2 ^ 64 → header.e_flags < 2 ^ 32 → header.e_ehsize < 2 ^ 16 → header.e_phentsize < 2 ^ 16 → header.e_phnum < 2 ^ 16 → header.e_shentsize < 2 ^ 16 → header.e_shnum < 2 ^ 16 → header.e_shstrndx < 2 ^ 16
    → ehdr_at (pre ++ ehdr_bytes header ++ post) at ≡ header
unfolding ehdr_at numbers_bytes bytes_of
ehdr_at-ehdr_bytes at pre post header len ident-fits e_type-fits e_machine-fits e_version-fits e_entry-fits e_phoff-fits e_shoff-fits e_flags-fits e_ehsize-fits e_phentsize-fits e_phnum-fits e_shentsize-fits e_shnum-fits e_shstrndx-fits =
    let whole = ident_first pre post header in
    let len' : length (pre ++ header.e_ident) ≡ at + 16 = omega (arith, length-append pre header.e_ident) in
    let e_ident-back : take 16 (drop at ((pre ++ header.e_ident) ++ numbers_bytes header ++ post)) ≡ header.e_ident =
    ap (λ (bytes : List ℕ). take 16 (drop at bytes)) (append_assoc (pre ++ header.e_ident) (numbers_bytes header) post ∙ append_assoc pre header.e_ident (numbers_bytes header ++ post))
    ∙ ap (take 16) (drop_at pre (header.e_ident ++ (numbers_bytes header ++ post)) at len)
    ∙ take_at header.e_ident (numbers_bytes header ++ post) 16 ident-fits in
    let e_type-back : num ((pre ++ header.e_ident) ++ numbers_bytes header ++ post) (at + 16) 2 ≡ header.e_type = num_back (at + 16) 0 (at + 16) 2 header.e_type (pre ++ header.e_ident) (numbers_bytes header) post len' (omega arith) refl (omega arith) in
    let e_machine-back : num ((pre ++ header.e_ident) ++ numbers_bytes header ++ post) (at + 18) 2 ≡ header.e_machine = num_back (at + 16) 2 (at + 18) 2 header.e_machine (pre ++ header.e_ident) (numbers_bytes header) post len' (omega arith) refl (omega arith) in
    let e_version-back : num ((pre ++ header.e_ident) ++ numbers_bytes header ++ post) (at + 20) 4 ≡ header.e_version = num_back (at + 16) 4 (at + 20) 4 header.e_version (pre ++ header.e_ident) (numbers_bytes header) post len' (omega arith) refl (omega arith) in
    let e_entry-back : num ((pre ++ header.e_ident) ++ numbers_bytes header ++ post) (at + 24) 8 ≡ header.e_entry = num_back (at + 16) 8 (at + 24) 8 header.e_entry (pre ++ header.e_ident) (numbers_bytes header) post len' (omega arith) refl (omega arith) in
    let e_phoff-back : num ((pre ++ header.e_ident) ++ numbers_bytes header ++ post) (at + 32) 8 ≡ header.e_phoff = num_back (at + 16) 16 (at + 32) 8 header.e_phoff (pre ++ header.e_ident) (numbers_bytes header) post len' (omega arith) refl (omega arith) in
    let e_shoff-back : num ((pre ++ header.e_ident) ++ numbers_bytes header ++ post) (at + 40) 8 ≡ header.e_shoff = num_back (at + 16) 24 (at + 40) 8 header.e_shoff (pre ++ header.e_ident) (numbers_bytes header) post len' (omega arith) refl (omega arith) in
    let e_flags-back : num ((pre ++ header.e_ident) ++ numbers_bytes header ++ post) (at + 48) 4 ≡ header.e_flags = num_back (at + 16) 32 (at + 48) 4 header.e_flags (pre ++ header.e_ident) (numbers_bytes header) post len' (omega arith) refl (omega arith) in
    let e_ehsize-back : num ((pre ++ header.e_ident) ++ numbers_bytes header ++ post) (at + 52) 2 ≡ header.e_ehsize = num_back (at + 16) 36 (at + 52) 2 header.e_ehsize (pre ++ header.e_ident) (numbers_bytes header) post len' (omega arith) refl (omega arith) in
    let e_phentsize-back : num ((pre ++ header.e_ident) ++ numbers_bytes header ++ post) (at + 54) 2 ≡ header.e_phentsize = num_back (at + 16) 38 (at + 54) 2 header.e_phentsize (pre ++ header.e_ident) (numbers_bytes header) post len' (omega arith) refl (omega arith) in
    let e_phnum-back : num ((pre ++ header.e_ident) ++ numbers_bytes header ++ post) (at + 56) 2 ≡ header.e_phnum = num_back (at + 16) 40 (at + 56) 2 header.e_phnum (pre ++ header.e_ident) (numbers_bytes header) post len' (omega arith) refl (omega arith) in
    let e_shentsize-back : num ((pre ++ header.e_ident) ++ numbers_bytes header ++ post) (at + 58) 2 ≡ header.e_shentsize = num_back (at + 16) 42 (at + 58) 2 header.e_shentsize (pre ++ header.e_ident) (numbers_bytes header) post len' (omega arith) refl (omega arith) in
    let e_shnum-back : num ((pre ++ header.e_ident) ++ numbers_bytes header ++ post) (at + 60) 2 ≡ header.e_shnum = num_back (at + 16) 44 (at + 60) 2 header.e_shnum (pre ++ header.e_ident) (numbers_bytes header) post len' (omega arith) refl (omega arith) in
    let e_shstrndx-back : num ((pre ++ header.e_ident) ++ numbers_bytes header ++ post) (at + 62) 2 ≡ header.e_shstrndx = num_back (at + 16) 46 (at + 62) 2 header.e_shstrndx (pre ++ header.e_ident) (numbers_bytes header) post len' (omega arith) refl (omega arith) in
    rw (whole, e_ident-back, e_type-back, e_machine-back, e_version-back, e_entry-back, e_phoff-back, e_shoff-back, e_flags-back, e_ehsize-back, e_phentsize-back, e_phnum-back, e_shentsize-back, e_shnum-back, e_shstrndx-back) refl
