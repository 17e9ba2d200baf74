-- The fields of a file header that lead to the program headers and to the section headers are read back from its
-- bytes (gABI "ELF Header").
use Rattle.std.proofs.Common.{◌≡◌, ℕ, ◌^◌, ◌<◌, List, [], ◌++◌, length, refl}
use Rattle.lk_elf.specs.Fields.{bytes_of, num}
use Rattle.lk_elf.specs.Records.{ehdr_at, ehdr_bytes}
use Rattle.lk_elf.specs.declared.file_header.Ehdr.{Ehdr}
use Rattle.lk_elf.proofs.Writing.{num_back}
use Rattle.lk_model.specs.FileHeader.{identification}

-- a file header of this identification
abbrev pub header_with : ℕ → ℕ → ℕ → ℕ → ℕ → ℕ → ℕ → ℕ → ℕ → ℕ → ℕ → ℕ → ℕ → Ehdr
header_with type machine version entry phoff shoff flags ehsize phentsize phnum shentsize shnum shstrndx = record {
  e_ident = identification;
  e_type = type;
  e_machine = machine;
  e_version = version;
  e_entry = entry;
  e_phoff = phoff;
  e_shoff = shoff;
  e_flags = flags;
  e_ehsize = ehsize;
  e_phentsize = phentsize;
  e_phnum = phnum;
  e_shentsize = shentsize;
  e_shnum = shnum;
  e_shstrndx = shstrndx;
}

-- its fields that lead to the section headers
pub header-back : (type machine version entry phoff shoff flags ehsize phentsize phnum shentsize shnum shstrndx : ℕ) (post : List ℕ)
    → shoff < 2 ^ 64 → shnum < 2 ^ 16 → shstrndx < 2 ^ 16
    → let bytes = ehdr_bytes (header_with type machine version entry phoff shoff flags ehsize phentsize phnum shentsize shnum shstrndx) ++ post in
    ((ehdr_at bytes 0).e_shoff ≡ shoff) × ((ehdr_at bytes 0).e_shnum ≡ shnum) × ((ehdr_at bytes 0).e_shstrndx ≡ shstrndx)
unfolding ehdr_at ehdr_bytes bytes_of
header-back type machine version entry phoff shoff flags ehsize phentsize phnum shentsize shnum shstrndx post low-off low-num low-index =
    let bytes = ehdr_bytes (header_with type machine version entry phoff shoff flags ehsize phentsize phnum shentsize shnum shstrndx) in (
      num_back 0 40 40 8 shoff [] bytes post refl refl refl low-off,
      num_back 0 60 60 2 shnum [] bytes post refl refl refl low-num,
      num_back 0 62 62 2 shstrndx [] bytes post refl refl refl low-index,
    )

-- its fields that lead to the program headers, and its length
pub program-headers-back :
    (type machine version entry phoff shoff flags ehsize phentsize phnum shentsize shnum shstrndx : ℕ) (post : List ℕ)
    → phoff < 2 ^ 64
    → phnum < 2 ^ 16
    → (num (ehdr_bytes (header_with type machine version entry phoff shoff flags ehsize phentsize phnum shentsize shnum shstrndx) ++ post) 32 8 ≡ phoff)
    × (num (ehdr_bytes (header_with type machine version entry phoff shoff flags ehsize phentsize phnum shentsize shnum shstrndx) ++ post) 56 2 ≡ phnum)
    × (length (ehdr_bytes (header_with type machine version entry phoff shoff flags ehsize phentsize phnum shentsize shnum shstrndx)) ≡ 64)
unfolding ehdr_bytes bytes_of
program-headers-back type machine version entry phoff shoff flags ehsize phentsize phnum shentsize shnum shstrndx post low few =
    let bytes = ehdr_bytes (header_with type machine version entry phoff shoff flags ehsize phentsize phnum shentsize shnum shstrndx) in (
      num_back 0 32 32 8 phoff [] bytes post refl refl refl low,
      num_back 0 56 56 2 phnum [] bytes post refl refl refl few,
      refl,
    )
